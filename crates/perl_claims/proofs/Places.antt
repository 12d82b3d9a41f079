-- The place of number 15: no template goes on with the byte that stands there, and some template goes on otherwise. The
-- bytes before it are continued by a space and an `a` for every sequence that is open there, with a `)` after each but
-- the outermost.
use Rattle.std.specs.Prelude.{if◌then◌else◌}
use Prim.Native.Nat.{ℕ, zero, suc, ◌+◌, ◌-◌, ◌≤◌, ◌<◌}
use native.Mathlib.Nat.{eq-or-lt_of_le, lt_of_not-le}
use native.Mathlib.Decide.{dec_le, ℕ_discrete}
use native.Mathlib.Omega.{arith}
use mathlib.Core.Path.{◌≡◌, refl, sym, ap, ◌∙◌, subst}
use mathlib.Core.Logic.{◌⊎◌, inl, inr, ⊎_elim}
use mathlib.Core.Bool.{Bool, true, false, ◌&&◌}
use borrow.Author.Tests.{le-leb, lt-leb}
use lib.Dec.{leb}
use mathlib.Core.List.{List, [], ◌∷◌, ◌++◌, append_assoc}
use lib.ListN.{length, get_or, take, drop, length-append, length-drop, take-append-drop, get_or-append}
use lib.Seq.{drop-cons, drop-append-le, drop_at, get_or-take, take-add, length-take-le}
use Rattle.layout.specs.declared.Refusal.TheVariants.{BadSize, BadTemplate, NoRoom}
use Rattle.layout.specs.Refusals.{ok, refused}
use Rattle.layout.specs.Layout.{max_layout}
use Rattle.layout.proofs.Laws.{no-refusal}
use Rattle.perl.specs.declared.tokens.Letter.{Letter}
use Rattle.std.specs.declared.option.Option.{Option}
use Rattle.std.specs.declared.option.Option.TheVariants.{Some, None}
use Rattle.perl.specs.Tokens.{max_template_count, max_depth, max_repeat, letter_of, continues, with_digit, number_in, digits_in, repeat_of}
use Rattle.perl.specs.Template.{Template, Item, done, next, single, group, ReadTo, read, stray, letter_at, group_at, and_then, sequence, or_refused, template_of}
use Rattle.perl.specs.inside.Readers.{items_from, item_from}
use Rattle.perl.specs.Conversion.{layout_from, convert_effect, from_perl}
use Rattle.perl_claims.specs.Spelling.{Spells}
use Rattle.perl_claims.specs.Claim.{Begins, FirstBad, Places, due_for, BySpellings}
use Rattle.perl_claims.proofs.Spelling.{Tail, spelled-read, read-spelled}
use Rattle.perl.proofs.readers.Readings.{Ends, ItemEnds, items-end, item-end, from-end-top, from-space, from-close, from-bare, from-item, from-stray, item-letter, item-deep, item-group, close-inside, group-is}
use Rattle.perl_claims.proofs.Local.{read_end, starts, Agree, agree-take, agree_less, SameNumber, same-cons, local}

-- ---- readings that differ

abbrev IsStray : {A : Type 0} → ReadTo A → Type 0
IsStray (read a e) = ⊥
IsStray (stray p) = Unit {0}

not-both {ℓ} : {A : Type 0} {X : Type ℓ} (r : ReadTo A) (a : A) (e p : ℕ) → r ≡ read a e → r ≡ stray p → X
not-both r a e p h k = absurd (subst IsStray (sym k ∙ h) tt)

same_place : {A : Type 0} (r : ReadTo A) (p q : ℕ) → r ≡ stray p → r ≡ stray q → p ≡ q
same_place r p q h k = cc

-- ---- the byte at a place, from what stands from there on

peek : (text : List ℕ) (q c : ℕ) (cs : List ℕ) → drop q text ≡ c ∷ cs → (q < length text) × (get_or text q 0 ≡ c) × (drop (suc q) text ≡ cs)
peek text q c cs e =
    let l : suc (length cs) ≡ length text - q = sym (ap length e) ∙ length-drop q text in
    let h : q < length text = omega arith in
    let s : get_or text q 0 ∷ drop (suc q) text ≡ c ∷ cs = sym (drop-cons text q 0 h) ∙ e in
    let b : get_or text q 0 ≡ c = cc in
    let d : drop (suc q) text ≡ cs = cc in
    (h, b, d)

-- ---- what closes a sequence

tail-digits : (depth : ℕ) (tail : List ℕ) → Tail depth tail → digits_in max_template_count 0 tail ≡ 0
unfolding digits_in continues
tail-digits zero [] h = refl
tail-digits zero (c ∷ cs) h = absurd h
tail-digits (suc d) [] h = absurd h
tail-digits (suc d) (c ∷ cs) h = rw h

tail-ends : (text : List ℕ) (q depth : ℕ) (tail : List ℕ) → drop q text ≡ tail → Tail depth tail → items_from depth true text q ≡ read done q
tail-ends text q zero [] e h = from-end-top 0 text true q (let l : 0 ≡ length text - q = sym (ap length e) ∙ length-drop q text in omega arith) refl
tail-ends text q zero (c ∷ cs) e h = absurd h
tail-ends text q (suc d) [] e h = absurd h
tail-ends text q (suc d) (c ∷ cs) e h =
    let k = peek text q c cs e in
    let b : get_or text q 0 ≡ 41 = k.1 ∙ h in
    from-close (suc d) text true q k.0 (λ z. omega arith) b (λ z. omega arith) refl

-- a space and an `a` in front of it are an item
module _ (text : List ℕ) (q depth : ℕ) (filled : Bool) (tail : List ℕ) (here : drop q text ≡ 32 ∷ 97 ∷ tail) (h : Tail depth tail) where
  letter-here : item_from depth text (suc q) ≡ read (single (record { letter = 97; unsigned = false; count = take 0 tail })) (suc (suc q) + 0)
  unfolding letter_of letter_at
  letter-here =
      let k = peek text q 32 (97 ∷ tail) here in
      let l = peek text (suc q) 97 tail k.2 in
      let b : get_or text (suc q) 0 ≡ 97 = l.1 in
      item-letter depth text (suc q) (λ z. omega arith) ∙ (rw (b, l.2, tail-digits depth tail h))

  closes : (t : Template) × (items_from depth filled text q ≡ read t (q + 2))
  closes =
      let k = peek text q 32 (97 ∷ tail) here in
      let l = peek text (suc q) 97 tail k.2 in
      let b : get_or text (suc q) 0 ≡ 97 = l.1 in
      let i : Item = single (record { letter = 97; unsigned = false; count = take 0 tail }) in
      let place : suc (suc q) + 0 ≡ suc (suc q) = omega arith in
      let last : suc (suc q) ≡ q + 2 = omega arith in
      let it : item_from depth text (suc q) ≡ read i (suc (suc q)) = letter-here ∙ ap (read i) place in
      let end : items_from depth true text (suc (suc q)) ≡ read done (suc (suc q)) = tail-ends text (suc (suc q)) depth tail l.2 h in (
        next i done,
        from-space depth text filled q k.0 k.1
            ∙ from-item depth text filled (suc q) l.0 (λ z. omega arith) (λ z. omega arith) i (suc (suc q)) it
            ∙ ap (and_then i) end
            ∙ ap (read (next i done)) last,
      )

-- ---- numbers before a space

number-none : (cs : List ℕ) (limit v : ℕ) → digits_in limit v cs ≡ 0 → number_in limit v cs ≡ v
unfolding digits_in number_in
number-none [] limit v e = refl
number-none (c ∷ cs) limit v e = go (continues limit v c) e
  where
    go : (t : Bool) → (if t then suc (digits_in limit (with_digit v c) cs) else 0) ≡ 0 → (if t then number_in limit (with_digit v c) cs else v) ≡ v
    go true q = absurd (omega arith)
    go false q = refl

space-digits : (limit v : ℕ) (ys : List ℕ) → (digits_in limit v (32 ∷ ys) ≡ 0) × (number_in limit v (32 ∷ ys) ≡ v)
unfolding digits_in number_in continues
space-digits limit v ys = (refl, refl)

cut-zero : (cs ys : List ℕ) (limit v : ℕ) → digits_in limit v cs ≡ 0 → SameNumber limit v cs (32 ∷ ys)
cut-zero cs ys limit v e = (before-space ∙ sym e, same-value ∙ sym (number-none cs limit v e), rw e)
  where
    before-space : digits_in limit v (32 ∷ ys) ≡ 0
    before-space = (space-digits limit v ys).0

    same-value : number_in limit v (32 ∷ ys) ≡ v
    same-value = (space-digits limit v ys).1

number_cut : (cs ys : List ℕ) (limit v k : ℕ) → digits_in limit v cs ≤ k → k ≤ length cs → SameNumber limit v cs (take k cs ++ (32 ∷ ys))
number_cut cs ys limit v zero h l = cut-zero cs ys limit v (omega arith)
number_cut [] ys limit v (suc k) h l = absurd (omega arith)
number_cut (c ∷ cs) ys limit v (suc k) h l =
    same-cons c cs (take k cs ++ (32 ∷ ys)) limit v (suc k) (λ m. number_cut cs ys limit (with_digit v c) k (omega arith) (omega arith)) (omega arith)

letter-cut : (at : ℕ) (l : Option Letter) (cs ds : List ℕ) (i : Item) (e : ℕ) → letter_at at l cs ≡ read i e
    → (suc at + digits_in max_template_count 0 cs ≡ e → SameNumber max_template_count 0 cs ds) → letter_at at l ds ≡ read i e
unfolding letter_at
letter-cut at (Some l) cs ds i e q s = let place : suc at + digits_in max_template_count 0 cs ≡ e = cc in let k = s place in rw (k.0, k.2) q
letter-cut at None cs ds i e q s = not-both (stray at) i e at q refl

letter-stray : (at : ℕ) (l : Option Letter) (cs : List ℕ) (p : ℕ) → letter_at at l cs ≡ stray p → at ≡ p
unfolding letter_at
letter-stray at (Some l) cs p q = not-both (letter_at at (Some l) cs) _ _ p refl q
letter-stray at None cs p q = cc

then-stray : (i : Item) (r : ReadTo Template) (p : ℕ) → and_then i r ≡ stray p → r ≡ stray p
then-stray i (read t e) p q = not-both (read (next i t) e) (next i t) e p refl q
then-stray i (stray s) p q = q

group-stray : (at : ℕ) (cs : List ℕ) (r : ReadTo Template) (p : ℕ) → group_at at cs r ≡ stray p → r ≡ stray p
unfolding group_at
group-stray at cs (read t e) p q = not-both (group_at at cs (read t e)) _ _ p refl q
group-stray at cs (stray s) p q = let e : s ≡ p = cc in ap stray e

-- ---- the text up to the place p, and then a space

module _ (text : List ℕ) (p : ℕ) (small : p ≤ length text) where
  abbrev cut : List ℕ → List ℕ
  cut ys = take p text ++ (32 ∷ ys)

  front : length (take p text) ≡ p
  front = length-take-le p text small

  cut-length : (ys : List ℕ) → length (cut ys) ≡ p + suc (length ys)
  cut-length ys = length-append (take p text) (32 ∷ ys) ∙ (rw front)

  cut-byte : (ys : List ℕ) (i : ℕ) → i < p → get_or (cut ys) i 0 ≡ get_or text i 0
  cut-byte ys i h = get_or-append (take p text) (32 ∷ ys) 0 i (rw front h) ∙ get_or-take p text i 0 h

  cut-drop : (ys : List ℕ) (a : ℕ) → a ≤ p → drop a (cut ys) ≡ take (p - a) (drop a text) ++ (32 ∷ ys)
  cut-drop ys a h =
      let sum : a + (p - a) ≡ p = omega arith in
      let parts : take p text ≡ take a text ++ take (p - a) (drop a text) = ap (λ (n : ℕ). take n text) (sym sum) ∙ take-add a (p - a) text in
      let dropped : drop a (take p text) ≡ take (p - a) (drop a text) = ap (drop a) parts ∙ drop_at (take a text) (take (p - a) (drop a text)) a (length-take-le a text (omega arith)) in
      drop-append-le a (take p text) (32 ∷ ys) (rw front h) ∙ ap (λ (x : List ℕ). x ++ (32 ∷ ys)) dropped

  cut-number : (ys : List ℕ) (a limit : ℕ) → a + digits_in limit 0 (drop a text) ≤ p → SameNumber limit 0 (drop a text) (drop a (cut ys))
  cut-number ys a limit h =
      rw (cut-drop ys a (omega arith)) (number_cut (drop a text) ys limit 0 (p - a) (omega arith) (rw length-drop (omega arith)))

  cut-inner : (ys : List ℕ) (depth at : ℕ) (t : Template) (close : ℕ) → at < close → close < p → items_from (suc depth) false text (suc at) ≡ read t close
      → items_from (suc depth) false (cut ys) (suc at) ≡ read t close
  unfolding items_from read_end
  cut-inner ys depth at t close l h e =
      let cs : List ℕ = drop (suc at) text in
      let place : read_end (sequence (suc depth) false (suc at) 0 cs) ≡ close = ap read_end e in
      let agree : Agree (close - at) cs (drop (suc at) (cut ys)) = rw (cut-drop ys (suc at) (omega arith))
      (agree_less (close - at) (p - suc at) cs (take (p - suc at) cs ++ (32 ∷ ys)) (omega arith)
      (agree-take (p - suc at) cs (32 ∷ ys) (rw length-drop (omega arith)))) in
      local cs (suc depth) false (suc at) 0 (drop (suc at) (cut ys)) (close - at) (omega arith) (omega arith) agree ∙ e

  module _ (ys : List ℕ) (depth at : ℕ) (h : at < p) (i : Item) (e : ℕ) (q : item_from depth text at ≡ read i e) (l : e ≤ p) where
    cut-letter : (get_or text at 0 ≡ 40 → ⊥) → item_from depth (cut ys) at ≡ read i e
    cut-letter n =
        let b : get_or (cut ys) at 0 ≡ get_or text at 0 = cut-byte ys at h in
        item-letter depth (cut ys) at (λ z. n (sym b ∙ z))
        ∙ (rw b (letter-cut at (letter_of (get_or text at 0)) (drop (suc at) text) (drop (suc at) (cut ys)) i e
        (sym (item-letter depth text at n) ∙ q) (λ s. cut-number ys (suc at) max_template_count (omega arith))))

    cut-group : get_or text at 0 ≡ 40 → depth < max_depth → (r : ReadTo Template) → items_from (suc depth) false text (suc at) ≡ r → item_from depth (cut ys) at ≡ read i e
    unfolding group_at
    cut-group y shallow (stray s) k = not-both (item_from depth text at) i e s q (item-group depth text at y shallow ∙ ap (group_at at (drop (suc at) text)) k)
    cut-group y shallow (read t close) k =
        let b : get_or (cut ys) at 0 ≡ 40 = cut-byte ys at h ∙ y in
        let within : at < length text = omega arith in
        let bounds = close-inside depth text at y shallow within t close k in
        let g : item_from depth text at ≡ read (group t (repeat_of (number_in max_repeat 0 (drop (suc close) text))))
        (suc close + digits_in max_repeat 0 (drop (suc close) text)) = group-is depth text at y shallow within t close
        k in
        let place : e ≡ suc close + digits_in max_repeat 0 (drop (suc close) text) = cc in
        let same : SameNumber max_repeat 0 (drop (suc close) text) (drop (suc close) (cut ys)) = cut-number ys (suc close) max_repeat (omega arith) in
        let inner : items_from (suc depth) false (cut ys) (suc at) ≡ read t close = cut-inner ys depth at t close (omega arith) (omega arith) k in
        group-is depth (cut ys) at b shallow (omega (arith, cut-length ys)) t close inner ∙ (rw (same.0, same.1) (sym g ∙ q))

    cut-item : item_from depth (cut ys) at ≡ read i e
    cut-item = elim (ℕ_discrete (get_or text at 0) 40) [
      | no n ↦ cut-letter n
      | yes y ↦ elim (dec_le max_depth depth) [
        | yes d ↦ not-both (item_from depth text at) i e at q (item-deep depth text at y d)
        | no d ↦ cut-group y (lt_of_not-le d) (items_from (suc depth) false text (suc at)) refl
      ]
    ]

  -- ---- the bytes before the place of a stray byte begin a template

  abbrev Continued : ℕ → Bool → ℕ → List ℕ → Type 0
  Continued depth filled at tail = (m : List ℕ) × (t : Template) × (items_from depth filled (cut (m ++ tail)) at ≡ read t (suc p + length m))

  -- the stray byte stands here
  continued-here : (depth : ℕ) (filled : Bool) (at : ℕ) (tail : List ℕ) → at ≡ p → Tail depth tail → Continued depth filled at tail
  continued-here depth filled at tail e h =
      let k = closes (cut (97 ∷ tail)) p depth filled tail (drop_at (take p text) (32 ∷ 97 ∷ tail) p front) h in
      let last : p + 2 ≡ suc p + 1 = omega arith in
      (97 ∷ [], k.0, ap (items_from depth filled (cut (97 ∷ tail))) e ∙ k.1 ∙ ap (read k.0) last)

  -- it stands in a group that begins here
  module _ (depth : ℕ) (filled : Bool) (at : ℕ) (tail : List ℕ) (h : at < p) (opening : get_or text at 0 ≡ 40) (shallow : depth < max_depth) (closed : Tail depth tail) where
    continued-group : Continued (suc depth) false (suc at) (41 ∷ 32 ∷ 97 ∷ tail) → Continued depth filled at tail
    continued-group (m, t, e) =
        let end : List ℕ = 41 ∷ 32 ∷ 97 ∷ [] in
        let whole : List ℕ = cut (m ++ (41 ∷ 32 ∷ 97 ∷ tail)) in
        let close : ℕ = suc p + length m in
        let size : length (m ++ end) ≡ length m + 3 = length-append m end in
        let same : cut ((m ++ end) ++ tail) ≡ whole = ap cut (append_assoc m end tail) in
        let begin : List ℕ = take p text ++ (32 ∷ (m ++ (41 ∷ []))) in
        let parts : whole ≡ begin ++ (32 ∷ 97 ∷ tail) = ap cut (sym (append_assoc m (41 ∷ []) (32 ∷ 97 ∷ tail))) ∙ sym (append_assoc (take p text) (32 ∷ (m ++ (41 ∷ []))) (32 ∷ 97 ∷ tail)) in
        let upto : length (m ++ (41 ∷ [])) ≡ length m + 1 = length-append m (41 ∷ []) in
        let long : length begin ≡ suc close = length-append (take p text) (32 ∷ (m ++ (41 ∷ []))) ∙ (rw front (omega arith)) in
        let after : drop (suc close) whole ≡ 32 ∷ 97 ∷ tail = ap (drop (suc close)) parts ∙ drop_at begin (32 ∷ 97 ∷ tail) (suc close) long in
        let none = space-digits max_repeat 0 (97 ∷ tail) in
        let b : get_or whole at 0 ≡ 40 = cut-byte (m ++ (41 ∷ 32 ∷ 97 ∷ tail)) at h ∙ opening in
        let inside : at < length whole = omega (arith, cut-length (m ++ (41 ∷ 32 ∷ 97 ∷ tail))) in
        let i : Item = group t 1 in
        let place : suc close + 0 ≡ suc close = omega arith in
        let it : item_from depth whole at ≡ read i (suc close) = group-is depth whole at b shallow inside t close e ∙ (rw (after, none.0, none.1, place)) in
        let k = closes whole (suc close) depth true tail after closed in
        let last : suc close + 2 ≡ suc p + length (m ++ end) = omega arith in (
          m ++ end,
          next i k.0,
          ap (λ (x : List ℕ). items_from depth filled x at) same
              ∙ from-item depth whole filled at inside (λ z. omega arith) (λ z. omega arith) i (suc close) it
              ∙ ap (and_then i) k.1
              ∙ ap (read (next i k.0)) last,
        )

  -- a `)` that is read or stray is so at its own place
  not-closing : (depth : ℕ) (filled : Bool) (at : ℕ) → at < p → get_or text at 0 ≡ 41 → items_from depth filled text at ≡ stray p → ⊥
  not-closing depth filled at h b q = go depth refl filled refl
    where
      within : at < length text
      within = omega arith

      no-space : get_or text at 0 ≡ 32 → ⊥
      no-space z = omega arith

      go : (d : ℕ) → depth ≡ d → (f : Bool) → filled ≡ f → ⊥
      go zero d f g = let s : p ≡ at = same_place (items_from depth filled text at) p at q (from-bare depth text filled at within no-space b (λ z k. omega arith)) in omega arith
      go (suc n) d true g = not-both (items_from depth filled text at) done at p (from-close depth text filled at within no-space b (λ z. omega arith) g) q
      go (suc n) d false g = let s : p ≡ at = same_place (items_from depth filled text at) p at q (from-bare depth text filled at within no-space b (λ z k. cc)) in omega arith

  -- a stray byte further on, in an item that begins here, is one of a group's items
  in_group : (depth at : ℕ) → at < p → item_from depth text at ≡ stray p → (get_or text at 0 ≡ 40) × (depth < max_depth) × (items_from (suc depth) false text (suc at) ≡ stray p)
  in_group depth at h q = elim (ℕ_discrete (get_or text at 0) 40) [
    | no n ↦ (let s : at ≡ p = letter-stray at (letter_of (get_or text at 0)) (drop (suc at) text) p (sym (item-letter depth text at n) ∙ q) in absurd (omega arith))
    | yes y ↦ elim (dec_le max_depth depth) [
      | yes d ↦ (let s : p ≡ at = same_place (item_from depth text at) p at q (item-deep depth text at y d) in absurd (omega arith))
      | no d ↦ (y, lt_of_not-le d, group-stray at (drop (suc at) text) (items_from (suc depth) false text (suc at)) p (sym (item-group depth text at y (lt_of_not-le d)) ∙ q))
    ]
  ]

  not-later : (depth : ℕ) (filled : Bool) (at : ℕ) → items_from depth filled text at ≡ stray p → at ≤ p
  unfolding items_from read_end
  not-later depth filled at q =
      let e : read_end (sequence depth filled at 0 (drop at text)) ≡ p = ap read_end q in
      omega (arith, starts (drop at text) depth filled at 0 (omega arith))

  abbrev Below : ℕ → Type 0
  Below k = (depth : ℕ) (filled : Bool) (at : ℕ) (tail : List ℕ) → length text ≤ at + k → items_from depth filled text at ≡ stray p → Tail depth tail → Continued depth filled at tail

  module _ (k : ℕ) (ih : Below k) (depth : ℕ) (filled : Bool) (at : ℕ) (tail : List ℕ) (fuel : length text ≤ at + suc k) (q : items_from depth filled text at ≡ stray p) (closed : Tail depth tail) (h : at < p) where
    within : at < length text
    within = omega arith

    cut-within : (ys : List ℕ) → at < length (cut ys)
    cut-within ys = omega (arith, cut-length ys)

    at-space : get_or text at 0 ≡ 32 → Continued depth filled at tail
    at-space b =
        let (m, t, e) = ih depth filled (suc at) tail (omega arith) (sym (from-space depth text filled at within b) ∙ q) closed in
        (m, t, from-space depth (cut (m ++ tail)) filled at (cut-within (m ++ tail)) (cut-byte (m ++ tail) at h ∙ b) ∙ e)

    module _ (no-space : get_or text at 0 ≡ 32 → ⊥) (no-close : get_or text at 0 ≡ 41 → ⊥) where
      at_item : (r : ReadTo Item) → item_from depth text at ≡ r → Continued depth filled at tail
      at_item (read i e) g =
          let rest : items_from depth true text e ≡ stray p = then-stray i (items_from depth true text e) p (sym (from-item depth text filled at within no-space no-close i e g) ∙ q) in
          let w : ItemEnds at (length text) (read i e) = subst (ItemEnds at (length text)) g (item-end depth text at within) in
          let later : e ≤ p = not-later depth true e rest in
          let (m, t, f) = ih depth true e tail (omega arith) rest closed in
          let b : get_or (cut (m ++ tail)) at 0 ≡ get_or text at 0 = cut-byte (m ++ tail) at h in (
            m,
            next i t,
            from-item depth (cut (m ++ tail)) filled at (cut-within (m ++ tail)) (λ z. no-space (sym b ∙ z)) (λ z. no-close (sym b ∙ z)) i e (cut-item (m ++ tail) depth at h i e g later)
                ∙ ap (and_then i) f,
          )
      at_item (stray s) g =
          let same : s ≡ p = same_place (items_from depth filled text at) s p (from-stray depth text filled at within no-space no-close s g) q in
          let k = in_group depth at h (g ∙ ap stray same) in
          continued-group depth filled at tail h k.0 k.1 closed (ih (suc depth) false (suc at) (41 ∷ 32 ∷ 97 ∷ tail) (omega arith) k.2 refl)

    further-on : Continued depth filled at tail
    further-on = elim (ℕ_discrete (get_or text at 0) 32) [
      | yes b ↦ at-space b
      | no n ↦ elim (ℕ_discrete (get_or text at 0) 41) [
        | yes b ↦ absurd (not-closing depth filled at h b q)
        | no m ↦ at_item n m (item_from depth text at) refl
      ]
    ]

  continued : (k : ℕ) → Below k
  continued zero depth filled at tail fuel q closed =
      let l : at ≤ p = not-later depth filled at q in
      continued-here depth filled at tail (omega arith) closed
  continued (suc k) depth filled at tail fuel q closed =
      ⊎_elim (λ e. continued-here depth filled at tail e closed) (λ h. further-on k (continued k) depth filled at tail fuel q closed h) (eq-or-lt_of_le (not-later depth filled at q))

-- ---- the claims

first-bad : (text : List ℕ) (p : ℕ) → items_from 0 false text 0 ≡ stray p → FirstBad text p
unfolding items_from template_of read_end
first-bad text p e =
    let small : p ≤ length text = (subst (Ends 0 0 (length text)) e (items-end 0 text false 0 (omega arith))).1 in
    let (m, t, f) = continued text p small (length text) 0 false 0 [] (omega arith) e tt in
    record {
      within = small;
      good = (32 ∷ (m ++ []), t, read-spelled (take p text ++ (32 ∷ (m ++ []))) t (ap or_refused f));
      bad = λ h (more, u, o).
          let place : read_end (sequence 0 false 0 0 text) ≡ p = ap read_end e in
          let same : sequence 0 false 0 0 (take (suc p) text ++ more) ≡ stray p = local text 0 false 0 0
          (take (suc p) text ++ more) (suc p) (omega arith) (omega arith) (agree-take (suc p) text more h) ∙ e in
          no-refusal (sym (ap or_refused same) ∙ spelled-read (take (suc p) text ++ more) u o);
      ended = λ h u o. no-refusal (sym (ap or_refused e) ∙ spelled-read text u o);
    }

-- what a text is: a spelling, or one with a first bad place
judged : (text : List ℕ) → ((t : Template) × (template_of text ≡ ok t) × Spells 0 t text) ⊎ ((p : ℕ) × (template_of text ≡ refused BadTemplate p) × FirstBad text p)
unfolding template_of items_from
judged text = go (items_from 0 false text 0) refl
  where
    go : (r : ReadTo Template) → items_from 0 false text 0 ≡ r → ((t : Template) × (template_of text ≡ ok t) × Spells 0 t text) ⊎ ((p : ℕ) × (template_of text ≡ refused BadTemplate p) × FirstBad text p)
    go (read t end) e = inl (t, ap or_refused e, read-spelled text t (ap or_refused e))
    go (stray p) e = inr (p, ap or_refused e, first-bad text p e)

-- a template has no first bad place, and no text has two
begins-less : (text : List ℕ) (j k : ℕ) → j ≤ k → Begins (take k text) → Begins (take j text)
begins-less text j k h (more, t, p) =
    let sum : j + (k - j) ≡ k = omega arith in
    let parts : take k text ≡ take j text ++ take (k - j) (drop j text) = ap (λ (n : ℕ). take n text) (sym sum) ∙ take-add j (k - j) text in
    let whole : take k text ++ more ≡ take j text ++ (take (k - j) (drop j text) ++ more) = ap (λ (x : List ℕ). x ++ more) parts ∙ append_assoc (take j text) (take (k - j) (drop j text)) more in
    (take (k - j) (drop j text) ++ more, t, subst (Spells 0 t) whole p)

no-bad : (text : List ℕ) (t : Template) (p : ℕ) → Spells 0 t text → FirstBad text p → ⊥
no-bad text t p s b =
    ⊎_elim (λ e. b.ended e t s) (λ h. b.bad h (drop (suc p) text, t, subst (Spells 0 t) (sym (take-append-drop (suc p) text)) s)) (eq-or-lt_of_le b.within)

one_place : (text : List ℕ) (p q : ℕ) → FirstBad text p → FirstBad text q → p ≡ q
one_place text p q a b = omega (arith, earlier p q a b, earlier q p b a)
  where
    earlier : (p q : ℕ) → FirstBad text p → FirstBad text q → p < q → ⊥
    earlier p q a b h = a.bad (omega (arith, b.within)) (begins-less text (suc p) q h b.good)

pub places : Places
unfolding Places
places text place = (λ e. found e (judged text), λ b. met b (judged text))
  where
    found : template_of text ≡ refused BadTemplate place → ((t : Template) × (template_of text ≡ ok t) × Spells 0 t text)
        ⊎ ((p : ℕ) × (template_of text ≡ refused BadTemplate p) × FirstBad text p) → FirstBad text place
    found e (inl (t, o, s)) = no-refusal (sym e ∙ o)
    found e (inr (p, o, f)) = let same : p ≡ place = cc in subst (FirstBad text) same f

    met : FirstBad text place → ((t : Template) × (template_of text ≡ ok t) × Spells 0 t text) ⊎ ((p : ℕ)
        × (template_of text ≡ refused BadTemplate p) × FirstBad text p) → template_of text ≡ refused BadTemplate place
    met b (inl (t, o, s)) = absurd (no-bad text t place s b)
    met b (inr (p, o, f)) = o ∙ ap (refused BadTemplate) (one_place text p place f b)

-- ---- every call

call_long : (template buffer : List ℕ) → max_layout < length template → from_perl template buffer ≡ convert_effect buffer (refused BadSize 0)
unfolding from_perl layout_from
call_long template buffer h = rw (lt-leb (length template) max_layout h)

call-read : (template buffer : List ℕ) (t : Template) (b : Bool) → length template ≤ max_layout
    → template_of template ≡ ok t → (leb (length (due_for t)) max_layout && leb (length (due_for t)) (length buffer)) ≡ b
    → from_perl template buffer ≡ convert_effect buffer (if b then ok (due_for t) else refused NoRoom 0)
unfolding from_perl layout_from
call-read template buffer t true l e h = rw (le-leb (length template) max_layout l, e, h)
call-read template buffer t false l e h = rw (le-leb (length template) max_layout l, e, h)

call-stray : (template buffer : List ℕ) (p : ℕ) → length template ≤ max_layout → template_of template ≡ refused BadTemplate p → from_perl template buffer ≡ convert_effect buffer (refused BadTemplate p)
unfolding from_perl layout_from
call-stray template buffer p l e = rw (le-leb (length template) max_layout l, e)

no_room : (n a b : ℕ) → (a < n) ⊎ (b < n) → (leb n a && leb n b) ≡ false
no_room n a b (inl h) = rw (lt-leb n a h)
no_room n a b (inr h) = rw (lt-leb n b h) (and-false (leb n a))
  where
    and-false : (x : Bool) → (x && false) ≡ false
    and-false true = refl
    and-false false = refl

pub by-spellings : BySpellings
unfolding Places
by-spellings = record {
  long = call_long;
  served = λ template buffer t l s few room.
      let fits : (leb (length (due_for t)) max_layout && leb (length (due_for t)) (length buffer)) ≡ true = rw (
        le-leb
            (length (due_for t)) max_layout few,
        le-leb (length (due_for t)) (length buffer) room,
      ) in
      call-read template buffer t true l (spelled-read template t s) fits;
  crowded = λ template buffer t l s h. call-read template buffer t false l (spelled-read template t s) (no_room (length (due_for t)) max_layout (length buffer) h);
  stray = λ template buffer p l b. call-stray template buffer p l ((places template p).1 b);
  always = λ text. ⊎_elim (λ (t, e, s). inl (t, s)) (λ (p, e, f). inr (p, f)) (judged text);
}
