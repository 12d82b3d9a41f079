-- The reader takes every spelling to its tree: it reads the longest number, no item begins with a digit, and a group's
-- items end at their own `)`. And what it takes is a spelling: each of its steps is one way to write a template.
use Rattle.std.specs.Prelude.{if◌then◌else◌}
use Prim.Native.Nat.{ℕ, zero, suc, ◌+◌, ◌-◌, ◌*◌, ◌≤◌, ◌<◌}
use native.Mathlib.Nat.{add-zero}
use native.Mathlib.Omega.{arith}
use mathlib.Core.Path.{◌≡◌, refl, sym, ap, ◌∙◌, subst}
use mathlib.Core.Bool.{Bool, true, false, ◌&&◌, ◌||◌}
use mathlib.Core.List.{List, [], ◌∷◌, ◌++◌, append_assoc, append-nil}
use borrow.Author.Tests.{le-leb, leb-true, lt-ltb, ltb-true, eqb-true, ne_eqb}
use lib.Dec.{eqb, leb, ltb}
use lib.ListN.{length, take, drop, length-append, take-append-drop}
use lib.Seq.{take-append_seam, drop_at, length-take-le}
use Rattle.layout.specs.Refusals.{ok}
use Rattle.layout.specs.Layout.{is_decimal, decimal}
use Rattle.layout.proofs.Laws.{ok-inj, no-refusal}
use Rattle.perl.specs.declared.tokens.Letter.{Letter}
use Rattle.std.specs.declared.option.Option.{Option}
use Rattle.std.specs.declared.option.Option.TheVariants.{Some, None}
use Rattle.perl.specs.Tokens.{max_template_count, max_depth, max_repeat, becomes, letter_of, continues, with_digit, number_in, digits_in, repeat_of}
use Rattle.perl.specs.Template.{Template, Item, done, next, single, group, ReadTo, read, stray, letter_at, group_at, item_at, Piece, space, close, item, bad, piece_from, piece_at, piece_extra, is_item, and_then, piece_then, sequence, or_refused, template_of}
use Rattle.perl.proofs.tokens.Numbers.{digits-within, number-limit}
use Rattle.perl.proofs.readers.Readings.{step_from, extra-within}
use Rattle.perl_claims.proofs.Layouts.{count-digits}
use Rattle.perl_claims.specs.Claim.{Spellings, OneTree}
use Rattle.perl_claims.specs.Spelling.{Digits, Number, omitted, given, Spells, nothing, spaced, lettered, bracketed}

-- ---- numbers in front of what does not go on with a digit

abbrev NoDigit : List ℕ → Type 0
NoDigit [] = Unit {0}
NoDigit (c ∷ cs) = is_decimal c ≡ false

grows : (v : ℕ) (ds : List ℕ) → v ≤ decimal v ds
unfolding decimal
grows v [] = omega arith
grows v (d ∷ ds) = go (is_decimal d) (grows (10 * v + (d - 48)) ds)
  where
    go : (b : Bool) → 10 * v + (d - 48) ≤ decimal (10 * v + (d - 48)) ds → v ≤ (if b then decimal (10 * v + (d - 48)) ds else v)
    go true h = omega arith
    go false h = omega arith

abbrev Reads : ℕ → ℕ → List ℕ → List ℕ → Type 0
Reads limit v ds rest = (digits_in limit v (ds ++ rest) ≡ length ds) × (number_in limit v (ds ++ rest) ≡ decimal v ds)

none_read : (limit v : ℕ) (rest : List ℕ) → NoDigit rest → Reads limit v [] rest
unfolding digits_in number_in continues decimal
none_read limit v [] h = (refl, refl)
none_read limit v (c ∷ cs) h = rw h (refl, refl)

-- one digit, and then the rest
digit-read : (limit v d : ℕ) (ds rest : List ℕ) → is_decimal d ≡ true → 0 < with_digit v d → decimal v (d ∷ ds) ≤ limit
    → (decimal (with_digit v d) ds ≤ limit → Reads limit (with_digit v d) ds rest) → Reads limit v (d ∷ ds) rest
unfolding digits_in number_in continues decimal
digit-read limit v d ds rest h pos most more =
    let last : decimal (with_digit v d) ds ≤ limit = rw h at most in
    let r = more last in
    rw (h, lt-ltb 0 (with_digit v d) pos, le-leb (with_digit v d) limit (omega (arith, grows (with_digit v d) ds))) (ap suc r.0, r.1)

digits-read : (limit v : ℕ) (ds rest : List ℕ) → Digits ds → 0 < v → decimal v ds ≤ limit → NoDigit rest → Reads limit v ds rest
digits-read limit v [] rest h pos most stop = none_read limit v rest stop
digits-read limit v (d ∷ ds) rest h pos most stop =
    digit-read limit v d ds rest h.0 (omega arith) most (λ l. digits-read limit (with_digit v d) ds rest h.1 (omega arith) l stop)

above : (d : ℕ) → is_decimal d ≡ true → (d ≡ 48 → ⊥) → 48 < d
above d h n = omega (arith, leb-true 48 d (first (leb 48 d) (leb d 57) h))
  where
    first : (a b : Bool) → (a && b) ≡ true → a ≡ true
    first true b e = refl
    first false b e = e

number_read : (limit : ℕ) (ds rest : List ℕ) → Number limit ds → NoDigit rest → Reads limit 0 ds rest
number_read limit ds rest omitted stop = none_read limit 0 rest stop
number_read limit ds rest (given {d = d} {ds = more} h n least most) stop =
    digit-read limit 0 d more rest h.0 (omega (arith, above d h.0 n)) most (λ l. digits-read limit (with_digit 0 d) more rest h.1 (omega (arith, above d h.0 n)) l stop)

-- ---- letters are no digits, spaces and brackets

record Apart (c : ℕ) : Type 0 where
  digit : is_decimal c ≡ false
  space : eqb c 32 ≡ false
  opening : eqb c 40 ≡ false
  closing : eqb c 41 ≡ false

abbrev ApartFrom : ℕ → Option Letter → Type 0
ApartFrom c (Some l) = Apart c
ApartFrom c None = Unit {0}

apart-known : (k : ℕ) → is_decimal k ≡ false → eqb k 32 ≡ false → eqb k 40 ≡ false → eqb k 41 ≡ false → Apart k
apart-known k d s o e = record { digit = d; space = s; opening = o; closing = e }

taken : (c k b : ℕ) (u : Bool) (other : Option Letter) → Apart k → ApartFrom c other → ApartFrom c (if eqb c k then becomes b u else other)
taken c k b u other h rest = go (eqb c k) (λ e. eqb-true c k e)
  where
    go : (t : Bool) → (t ≡ true → c ≡ k) → ApartFrom c (if t then becomes b u else other)
    go true e = subst Apart (sym (e refl)) h
    go false e = rest

apart-letter : (c : ℕ) → ApartFrom c (letter_of c)
unfolding letter_of
apart-letter c =
    taken c 97 _ _ _ (apart-known 97 refl refl refl refl)
    (taken c 98 _ _ _ (apart-known 98 refl refl refl refl)
    (taken c 66 _ _ _ (apart-known 66 refl refl refl refl)
    (taken c 104 _ _ _ (apart-known 104 refl refl refl refl)
    (taken c 72 _ _ _ (apart-known 72 refl refl refl refl)
    (taken c 120 _ _ _ (apart-known 120 refl refl refl refl)
    (taken c 67 _ _ _ (apart-known 67 refl refl refl refl)
    (taken c 110 _ _ _ (apart-known 110 refl refl refl refl)
    (taken c 78 _ _ _ (apart-known 78 refl refl refl refl)
    (taken c 118 _ _ _ (apart-known 118 refl refl refl refl)
    (taken c 86 _ _ _ (apart-known 86 refl refl refl refl) tt))))))))))

apart : (c b : ℕ) (u : Bool) → letter_of c ≡ becomes b u → Apart c
apart c b u e = subst (ApartFrom c) e (apart-letter c)

-- ---- what closes a sequence: the end of the text at the top, a `)` in a group, which then has an item

abbrev pub Tail : ℕ → List ℕ → Type 0
Tail zero [] = Unit {0}
Tail zero (c ∷ cs) = ⊥
Tail (suc d) [] = ⊥
Tail (suc d) (c ∷ cs) = c ≡ 41

abbrev Closable : ℕ → Bool → Template → Type 0
Closable zero filled t = Unit {0}
Closable (suc d) true t = Unit {0}
Closable (suc d) false done = ⊥
Closable (suc d) false (next i t) = Unit {0}

tail-stops : (depth : ℕ) (tail : List ℕ) → Tail depth tail → NoDigit tail
tail-stops zero [] h = tt
tail-stops zero (c ∷ cs) h = absurd h
tail-stops (suc d) [] h = absurd h
tail-stops (suc d) (c ∷ cs) h = ap is_decimal h

spelling-stops : {depth : ℕ} {t : Template} {s : List ℕ} → Spells depth t s → (tail : List ℕ) → Tail depth tail → NoDigit (s ++ tail)
spelling-stops {depth} nothing tail h = tail-stops depth tail h
spelling-stops (spaced p) tail h = refl
spelling-stops (lettered {c = c} {b = b} {u = u} e n p) tail h = (apart c b u e).digit
spelling-stops (bracketed l p n q) tail h = refl

-- ---- every spelling is read

-- the bytes that belong to the item before
skip : (depth : ℕ) (filled : Bool) (at : ℕ) (m rest : List ℕ) → sequence depth filled at (length m) (m ++ rest) ≡ sequence depth filled (at + length m) 0 rest
unfolding sequence
skip depth filled at [] rest = from_zero rest
  where
    from_zero : (rest : List ℕ) → sequence depth filled at 0 rest ≡ sequence depth filled (at + 0) 0 rest
    from_zero rest = rw add-zero
skip depth filled at (c ∷ m) rest =
    skip depth filled (suc at) m rest ∙ ap (λ (i : ℕ). sequence depth filled i 0 rest) (let e : suc at + length m ≡ at + suc (length m) = omega arith in e)

-- an item of which m is all but the first byte, and then others, up to the place e
item-first : (depth : ℕ) (filled : Bool) (at c : ℕ) (m rest : List ℕ) (i : Item) (t : Template) (e : ℕ)
    → piece_at depth filled at c (m ++ rest) (λ _. sequence (suc depth) false (suc at) 0 (m ++ rest)) ≡ item i (suc at + length m)
    → sequence depth true (suc at + length m) 0 rest ≡ read t e
    → sequence depth filled at 0 (c ∷ (m ++ rest)) ≡ read (next i t) e
unfolding sequence
item-first depth filled at c m rest i t e step r =
    let cs : List ℕ = m ++ rest in
    let long : suc at + length m - suc at ≡ length m = omega arith in
    let others : sequence depth (filled || true) (suc at) (suc at + length m - suc at) cs ≡ read t e = rw (or-true filled, long) (skip depth true (suc at) m rest ∙ r) in
    ap (λ (s : Piece). piece_then at s (sequence depth (filled || is_item s) (suc at) (piece_extra at s) cs)) step ∙ ap (and_then i) others
  where
    or-true : (b : Bool) → (b || true) ≡ true
    or-true true = refl
    or-true false = refl

at-end : (depth : ℕ) (filled : Bool) (at : ℕ) (tail : List ℕ) → Tail depth tail → Closable depth filled done → sequence depth filled at 0 tail ≡ read done (at + 0)
unfolding sequence piece_at
at-end zero filled at [] h k = rw add-zero
at-end zero filled at (c ∷ cs) h k = absurd h
at-end (suc d) filled at [] h k = absurd h
at-end (suc d) true at (c ∷ cs) h k = rw (h, lt-ltb 0 (suc d) (omega arith), add-zero)
at-end (suc d) false at (c ∷ cs) h k = absurd k

module _ (depth : ℕ) (filled : Bool) (at : ℕ) where
  -- a letter, its count, and what does not go on with a digit
  step-letter : (c b : ℕ) (u : Bool) (count rest : List ℕ) (inside : Unit {0} → ReadTo Template) → letter_of c ≡ becomes b u → Number max_template_count count → NoDigit rest
      → piece_at depth filled at c (count ++ rest) inside ≡ item (single (record { letter = b; unsigned = u; count = count })) (suc at + length count)
  unfolding piece_at item_at letter_at
  step-letter c b u count rest inside e n stop =
      let a = apart c b u e in
      let r = number_read max_template_count count rest n stop in
      rw (a.space, a.closing, a.opening, e, r.0, take-append_seam count rest, item_at)

  -- a group whose items were read up to its `)`, and its repeat
  step-group : (items times rest : List ℕ) (t : Template) → depth < max_depth → Number max_repeat times → NoDigit rest
      → sequence (suc depth) false (suc at) 0 (items ++ (41 ∷ (times ++ rest))) ≡ read t (suc at + length items)
      → piece_at depth filled at 40 (items ++ (41 ∷ (times ++ rest))) (λ _. sequence (suc depth) false (suc at) 0 (items ++ (41 ∷ (times ++ rest))))
      ≡ item (group t (repeat_of (decimal 0 times))) (suc at + length (items ++ (41 ∷ times)))
  unfolding piece_at item_at group_at
  step-group items times rest t shallow n stop e =
      let r = number_read max_repeat times rest n stop in
      let place : suc at + length items - at ≡ suc (length items) = omega arith in
      let upto : length (items ++ (41 ∷ [])) ≡ suc (length items) = length-append items (41 ∷ []) ∙ omega arith in
      let behind : drop (suc (length items)) (items ++ (41 ∷ (times ++ rest))) ≡ times
      ++ rest = ap (drop (suc (length items))) (sym (append_assoc items (41 ∷ []) (times ++ rest)))
      ∙ drop_at (items ++ (41 ∷ [])) (times ++ rest) (suc (length items)) upto in
      let whole : length (items ++ (41 ∷ times)) ≡ length items + suc (length times) = length-append items (41 ∷ times) in
      let last : suc (suc at + length items) + length times ≡ suc at + length (items ++ (41 ∷ times)) = omega arith in
      rw (lt-ltb depth max_depth shallow, e, place, behind, r.0, r.1, item_at) (ap (item (group t (repeat_of (decimal 0 times)))) last)

closable : (depth : ℕ) (t : Template) → Closable depth true t
closable zero t = tt
closable (suc d) t = tt

-- what is read of a spelling s of t
abbrev Taken-to : ℕ → Template → List ℕ → Type 0
Taken-to depth t s = (filled : Bool) (at : ℕ) (tail : List ℕ) → Tail depth tail → Closable depth filled t → sequence depth filled at 0 (s ++ tail) ≡ read t (at + length s)

reads-letter : {depth : ℕ} (c b : ℕ) (u : Bool) (count : List ℕ) {t : Template} {rest : List ℕ} → letter_of c ≡ becomes b u → Number max_template_count count → Spells depth t rest → Taken-to depth t rest
    → Taken-to depth (next (single (record { letter = b; unsigned = u; count = count })) t) (c ∷ (count ++ rest))
reads-letter {depth} c b u count {t} {rest} e n p ih filled at tail h k =
    let i : Item = single (record { letter = b; unsigned = u; count = count }) in
    let long : length (count ++ rest) ≡ length count + length rest = length-append count rest in
    let last : suc at + length count + length rest ≡ at + suc (length (count ++ rest)) = omega arith in
    let step = step-letter depth filled at c b u count (rest ++ tail) (λ _. sequence (suc depth) false (suc at) 0 (count ++ (rest ++ tail))) e n (spelling-stops p tail h) in
    ap (λ (x : List ℕ). sequence depth filled at 0 (c ∷ x)) (append_assoc count rest tail)
    ∙ item-first depth filled at c count (rest ++ tail) i t (suc at + length count + length rest) step (ih true (suc at + length count) tail h (closable depth t))
    ∙ ap (read (next i t)) last

reads-group : {depth : ℕ} {t : Template} {inside times : List ℕ} {u : Template} {rest : List ℕ} → depth < max_depth
    → Spells (suc depth) t inside → Closable (suc depth) false t → Taken-to (suc depth) t inside
    → Number max_repeat times → Spells depth u rest → Taken-to depth u rest
    → Taken-to depth (next (group t (repeat_of (decimal 0 times))) u) (40 ∷ (inside ++ (41 ∷ (times ++ rest))))
reads-group {depth} {t} {inside} {times} {u} {rest} l p full inner n q ih filled at tail h k =
    let i : Item = group t (repeat_of (decimal 0 times)) in
    let m : List ℕ = inside ++ (41 ∷ times) in
    let long : length (inside ++ (41 ∷ times)) ≡ length inside + suc (length times) = length-append inside (41 ∷ times) in
    let long₁ : length (inside ++ (41 ∷ (times ++ rest))) ≡ length inside + suc (length (times ++ rest)) = length-append inside (41 ∷ (times ++ rest)) in
    let long₂ : length (times ++ rest) ≡ length times + length rest = length-append times rest in
    let last : suc at + length m + length rest ≡ at + suc (length (inside ++ (41 ∷ (times ++ rest)))) = omega arith in
    let text : (inside ++ (41 ∷ (times ++ rest))) ++ tail ≡ inside ++ (41 ∷ (times ++ (rest ++ tail))) = append_assoc
    inside (41 ∷ (times ++ rest)) tail ∙ ap (λ (x : List ℕ). inside ++ (41 ∷ x)) (append_assoc times rest tail) in
    let joined : inside ++ (41 ∷ (times ++ (rest ++ tail))) ≡ m ++ (rest ++ tail) = sym (append_assoc inside (41 ∷ times) (rest ++ tail)) in
    let step = step-group depth filled at inside times (rest ++ tail) t l n (spelling-stops q tail h) (inner false (suc at) (41 ∷ (times ++ (rest ++ tail))) refl full) in
    let step₁ : piece_at depth filled at 40 (m ++ (rest ++ tail)) (λ _. sequence (suc depth) false (suc at) 0
    (m ++ (rest ++ tail))) ≡ item i (suc at + length m) = subst (λ (x : List ℕ). piece_at depth filled at 40 x
    (λ _. sequence (suc depth) false (suc at) 0 x) ≡ item i (suc at + length m)) joined step in
    ap (λ (x : List ℕ). sequence depth filled at 0 (40 ∷ x)) (text ∙ joined)
    ∙ item-first depth filled at 40 m (rest ++ tail) i u (suc at + length m + length rest) step₁ (ih true (suc at + length m) tail h (closable depth u))
    ∙ ap (read (next i u)) last

or-false : (b : Bool) → (b || false) ≡ b
or-false true = refl
or-false false = refl

reads-space : {depth : ℕ} {t : Template} {s : List ℕ} → Spells depth t s → Taken-to depth t s → Taken-to depth t (32 ∷ s)
unfolding sequence piece_at
reads-space {depth} {t} {s} p ih filled at tail h k =
    (rw (or-false filled) (ih filled (suc at) tail h k)) ∙ ap (read t) (let e : suc at + length s ≡ at + suc (length s) = omega arith in e)

reads : {depth : ℕ} {t : Template} {s : List ℕ} → Spells depth t s → Taken-to depth t s
reads {depth} nothing = λ filled at tail h k. at-end depth filled at tail h k
reads (spaced p) = reads-space p (reads p)
reads (lettered {c = c} {b = b} {u = u} {count = count} e n p) = reads-letter c b u count e n p (reads p)
reads (bracketed l p n q) = reads-group l p tt (reads p) n q (reads q)

pub spelled-read : (text : List ℕ) (t : Template) → Spells 0 t text → template_of text ≡ ok t
unfolding template_of
spelled-read text t p = ap or_refused (ap (sequence 0 false 0 0) (sym (append-nil text)) ∙ reads p false 0 [] tt tt)

-- ---- what is read is a spelling

both : (a b : Bool) → (a && b) ≡ true → (a ≡ true) × (b ≡ true)
both true b e = (refl, e)
both false b e = absurd (let z : ◌≡◌ {A = ℕ} 0 1 = cc in omega arith)

number-given : (limit c : ℕ) (ds : List ℕ) (n : ℕ) → continues limit 0 c ≡ true → Digits ds → decimal (with_digit 0 c) ds ≡ n → n ≤ limit → Number limit (c ∷ ds) × (decimal 0 (c ∷ ds) ≡ n)
unfolding continues decimal
number-given limit c ds n e h v most =
    let k = both (is_decimal c && ltb 0 (with_digit 0 c)) (leb (with_digit 0 c) limit) e in
    let l = both (is_decimal c) (ltb 0 (with_digit 0 c)) k.0 in
    let pos : 0 < with_digit 0 c = ltb-true 0 (with_digit 0 c) l.1 in
    let value : decimal 0 (c ∷ ds) ≡ n = rw l.0 v in
    let least : with_digit 0 c ≤ decimal (with_digit 0 c) ds = grows (with_digit 0 c) ds in
    let first : c ≡ 48 → ⊥ = λ z. omega arith in
    (given {d = c} {ds = ds} (l.0, h) first (omega arith) (omega arith), value)

number-spelt : (limit : ℕ) (cs : List ℕ) → Number limit (take (digits_in limit 0 cs) cs) × (decimal 0 (take (digits_in limit 0 cs) cs) ≡ number_in limit 0 cs)
unfolding digits_in number_in decimal
number-spelt limit [] = (omitted, refl)
number-spelt limit (c ∷ cs) = go (continues limit 0 c) refl
  where
    go : (t : Bool) → continues limit 0 c ≡ t
        → Number limit (take (if t then suc (digits_in limit (with_digit 0 c) cs) else 0) (c ∷ cs))
        × (decimal 0 (take (if t then suc (digits_in limit (with_digit 0 c) cs) else 0) (c ∷ cs)) ≡ (if t then
        number_in limit (with_digit 0 c) cs else 0))
    go true e =
        let k = count-digits limit (with_digit 0 c) cs in
        let small : with_digit 0 c ≤ limit = leb-true (with_digit 0 c) limit (unfold continues in (both (is_decimal c && ltb 0 (with_digit 0 c)) (leb (with_digit 0 c) limit) e).1) in
        number-given limit c (take (digits_in limit (with_digit 0 c) cs) cs) (number_in limit (with_digit 0 c) cs) e k.0 k.1 (number-limit limit (with_digit 0 c) cs small)
    go false e = (omitted, refl)

-- an item whose first byte is c: some bytes of cs more, in front of anything
record ItemSpelt (depth at c : ℕ) (cs : List ℕ) (i : Item) (e : ℕ) : Type 0 where
  bytes : List ℕ
  rest : List ℕ
  parts : cs ≡ bytes ++ rest
  place : e ≡ suc at + length bytes
  spells : (t : Template) (s : List ℕ) → Spells depth t s → Spells depth (next i t) (c ∷ (bytes ++ s))

abbrev IsItem : ℕ → ℕ → ℕ → List ℕ → ReadTo Item → Type 0
IsItem depth at c cs (read i e) = ItemSpelt depth at c cs i e
IsItem depth at c cs (stray p) = Unit {0}

-- the items up to the place e: the front of cs, closed by what follows
record Spelt (depth : ℕ) (filled : Bool) (at : ℕ) (cs : List ℕ) (t : Template) (e : ℕ) : Type 0 where
  front : List ℕ
  tail : List ℕ
  parts : cs ≡ front ++ tail
  place : e ≡ at + length front
  spells : Spells depth t front
  closed : Tail depth tail
  full : Closable depth filled t

abbrev IsSpelt : ℕ → Bool → ℕ → List ℕ → ReadTo Template → Type 0
IsSpelt depth filled at cs (read t e) = Spelt depth filled at cs t e
IsSpelt depth filled at cs (stray p) = Unit {0}

letter-spelt : (depth at c : ℕ) (l : Option Letter) (cs : List ℕ) → letter_of c ≡ l → IsItem depth at c cs (letter_at at l cs)
unfolding letter_at
letter-spelt depth at c (Some l) cs e =
    let n : ℕ = digits_in max_template_count 0 cs in
    record {
      bytes = take n cs;
      rest = drop n cs;
      parts = sym (take-append-drop n cs);
      place = ap (λ (k : ℕ). suc at + k) (sym (length-take-le n cs (digits-within max_template_count 0 cs)));
      spells = λ t s p. lettered e (number-spelt max_template_count cs).0 p;
    }
letter-spelt depth at c None cs e = tt

group-made : (depth at : ℕ) (i : Item) (u : Template) (front more cs : List ℕ) (e : ℕ) → cs ≡ front ++ (41 ∷ more) → e ≡ suc at + length front → depth < max_depth → Spells (suc depth) (next i u) front
    → ItemSpelt depth at 40 cs (group (next i u) (repeat_of (number_in max_repeat 0 (drop (e - at) cs)))) (suc e + digits_in max_repeat 0 (drop (e - at) cs))
group-made depth at i u front more cs e parts place l p =
    let n : ℕ = digits_in max_repeat 0 more in
    let upto : length (front ++ (41 ∷ [])) ≡ suc (length front) = length-append front (41 ∷ []) ∙ omega arith in
    let split : cs ≡ (front ++ (41 ∷ [])) ++ more = parts ∙ sym (append_assoc front (41 ∷ []) more) in
    let behind : drop (e - at) cs ≡ more = ap (drop (e - at)) split ∙ drop_at (front ++ (41 ∷ [])) more (e - at) (omega arith) in
    let long : length (front ++ (41 ∷ take n more)) ≡ length front + suc (length (take n more)) = length-append front (41 ∷ take n more) in
    let digits : length (take n more) ≡ n = length-take-le n more (digits-within max_repeat 0 more) in
    let k = number-spelt max_repeat more in
    rw behind
    (record {
      bytes = front ++ (41 ∷ take n more);
      rest = drop n more;
      parts = parts ∙ ap (λ (x : List ℕ). front ++ (41 ∷ x)) (sym (take-append-drop n more)) ∙ sym (append_assoc front (41 ∷ take n more) (drop n more));
      place = omega arith;
      spells = λ t s q. rw (append_assoc front (41 ∷ take n more) s, ← k.1) (bracketed l p k.0 q);
    })

-- the items of a group: one at least, and then a `)`
group-spelt : (depth at : ℕ) (cs : List ℕ) (r : ReadTo Template) → depth < max_depth → IsSpelt (suc depth) false (suc at) cs r → IsItem depth at 40 cs (group_at at cs r)
unfolding group_at
group-spelt depth at cs (stray p) l s = tt
group-spelt depth at cs (read t e) l s = go t s.tail s.parts s.spells s.closed s.full
  where
    go : (t : Template) (tail : List ℕ) → cs ≡ s.front ++ tail → Spells (suc depth) t s.front → Tail (suc depth) tail → Closable (suc depth) false t
        → ItemSpelt depth at 40 cs (group t (repeat_of (number_in max_repeat 0 (drop (e - at) cs)))) (suc e + digits_in max_repeat 0 (drop (e - at) cs))
    go done tail parts p c f = absurd f
    go (next i u) [] parts p c f = absurd c
    go (next i u) (b ∷ more) parts p c f = group-made depth at i u s.front more cs e (parts ∙ ap (λ (x : ℕ). s.front ++ (x ∷ more)) c) s.place l p

item-spelt : (depth at c : ℕ) (cs : List ℕ) (inside : Unit {0} → ReadTo Template) → IsSpelt (suc depth) false (suc at) cs (inside tt) → IsItem depth at c cs (item_at depth at c cs inside)
unfolding item_at
item-spelt depth at c cs inside h = go (eqb c 40 && ltb depth max_depth) (λ e. both (eqb c 40) (ltb depth max_depth) e)
  where
    go : (t : Bool) → (t ≡ true → (eqb c 40 ≡ true) × (ltb depth max_depth ≡ true)) → IsItem depth at c cs (elim t [ true ↦ group_at at cs (inside tt) | false ↦ letter_at at (letter_of c) cs ])
    go true e =
        let k = e refl in subst (λ (x : ℕ). IsItem depth at x cs (group_at at cs (inside tt)))
        (sym (eqb-true c 40 k.0)) (group-spelt depth at cs (inside tt) (ltb-true depth max_depth k.1) h)
    go false e = letter-spelt depth at c (letter_of c) cs refl

abbrev StepSpelt : ℕ → Bool → ℕ → ℕ → List ℕ → Piece → Type 0
StepSpelt depth filled at c cs space = c ≡ 32
StepSpelt depth filled at c cs close = (c ≡ 41) × (0 < depth) × (filled ≡ true)
StepSpelt depth filled at c cs (item i e) = ItemSpelt depth at c cs i e
StepSpelt depth filled at c cs (bad p) = Unit {0}

from-spelt : (depth : ℕ) (filled : Bool) (at c : ℕ) (cs : List ℕ) (r : ReadTo Item) → IsItem depth at c cs r → StepSpelt depth filled at c cs (piece_from r)
from-spelt depth filled at c cs (read i e) h = h
from-spelt depth filled at c cs (stray p) h = tt

step-spelt : (depth : ℕ) (filled : Bool) (at c : ℕ) (cs : List ℕ) (inside : Unit {0} → ReadTo Template)
    → IsSpelt (suc depth) false (suc at) cs (inside tt)
    → StepSpelt depth filled at c cs (piece_at depth filled at c cs inside)
unfolding piece_at
step-spelt depth filled at c cs inside h =
    go (eqb c 32) (eqb c 41) (ltb 0 depth && filled) (λ e. eqb-true c 32 e) (λ e. eqb-true c 41 e) (λ e. let k = both (ltb 0 depth) filled e in (ltb-true 0 depth k.0, k.1))
  where
    go : (s t u : Bool) → (s ≡ true → c ≡ 32) → (t ≡ true → c ≡ 41) → (u ≡ true → (0 < depth) × (filled ≡ true))
        → StepSpelt depth filled at c cs (if s then space else if t then (if u then close else bad at) else piece_from (item_at depth at c cs inside))
    go true t u a b d = a refl
    go false true true a b d = let k = d refl in (b refl, k.0, k.1)
    go false true false a b d = tt
    go false false u a b d = from-spelt depth filled at c cs (item_at depth at c cs inside) (item-spelt depth at c cs inside h)

tail-close : (depth c : ℕ) (cs : List ℕ) → c ≡ 41 → 0 < depth → Tail depth (c ∷ cs)
tail-close zero c cs e h = absurd (omega arith)
tail-close (suc d) c cs e h = e

closable-next : (depth : ℕ) (filled : Bool) (i : Item) (t : Template) → Closable depth filled (next i t)
closable-next zero filled i t = tt
closable-next (suc d) true i t = tt
closable-next (suc d) false i t = tt

-- a step in front of the items that follow, which begin after its further bytes
before-spelt : (depth : ℕ) (filled : Bool) (at c : ℕ) (cs : List ℕ) (s : Piece) (r : ReadTo Template)
    → StepSpelt depth filled at c cs s → IsSpelt depth (filled || is_item s) (suc at + piece_extra at s)
    (drop (piece_extra at s) cs) r
    → IsSpelt depth filled at (c ∷ cs) (piece_then at s r)
before-spelt depth filled at c cs space (stray p) h k = tt
before-spelt depth filled at c cs space (read t e) h k =
    record {
      front = 32 ∷ k.front;
      tail = k.tail;
      parts = ap (λ (x : ℕ). x ∷ cs) h ∙ ap (λ (x : List ℕ). 32 ∷ x) k.parts;
      place = omega (arith, k.place);
      spells = spaced k.spells;
      closed = k.closed;
      full = subst (λ (b : Bool). Closable depth b t) (or-false filled) k.full;
    }
before-spelt depth filled at c cs close r h k = record {
  front = [];
  tail = c ∷ cs;
  parts = refl;
  place = omega arith;
  spells = nothing;
  closed = tail-close depth c cs h.0 h.1;
  full = subst (λ (b : Bool). Closable depth b done) (sym h.2) (closable depth done);
}
before-spelt depth filled at c cs (item i e) (stray p) h k = tt
before-spelt depth filled at c cs (item i e) (read t f) h k =
    let rest : h.rest ≡ k.front ++ k.tail = sym (drop_at h.bytes h.rest (e - suc at) (omega (arith, h.place))) ∙ ap (drop (e - suc at)) (sym h.parts) ∙ k.parts in
    let long : length (h.bytes ++ k.front) ≡ length h.bytes + length k.front = length-append h.bytes k.front in
    record {
      front = c ∷ (h.bytes ++ k.front);
      tail = k.tail;
      parts = ap (λ (x : List ℕ). c ∷ x) (h.parts ∙ ap (λ (x : List ℕ). h.bytes ++ x) rest ∙ sym (append_assoc h.bytes k.front k.tail));
      place = omega (arith, h.place, k.place);
      spells = h.spells t k.front k.spells;
      closed = k.closed;
      full = closable-next depth filled i t;
    }
before-spelt depth filled at c cs (bad p) r h k = tt

at_top : (depth : ℕ) (filled : Bool) (at n : ℕ) → n ≤ 0 → IsSpelt depth filled (at + n) (drop n []) (if eqb depth 0 then read done at else stray at)
at_top zero filled at zero h = record { front = []; tail = []; parts = refl; place = omega arith; spells = nothing; closed = tt; full = tt }
at_top (suc d) filled at zero h = rw (ne_eqb (suc d) 0 (λ z. omega arith)) tt
at_top depth filled at (suc n) h = absurd (omega arith)

spelt : (cs : List ℕ) (depth : ℕ) (filled : Bool) (at n : ℕ) → n ≤ length cs → IsSpelt depth filled (at + n) (drop n cs) (sequence depth filled at n cs)
unfolding sequence
spelt [] depth filled at n h = at_top depth filled at n h
spelt (c ∷ cs) depth filled at (suc n) h =
    let l : suc at + n ≡ at + suc n = omega arith in
    subst (λ (x : ℕ). IsSpelt depth filled x (drop n cs) (sequence depth filled (suc at) n cs)) l (spelt cs depth filled (suc at) n (omega arith))
spelt (c ∷ cs) depth filled at zero h =
    let inside : Unit {0} → ReadTo Template = λ _. sequence (suc depth) false (suc at) 0 cs in
    let s : Piece = piece_at depth filled at c cs inside in
    let m : piece_extra at s ≤ length cs = extra-within at (length cs) s (step_from c cs depth filled at) in
    let inner : IsSpelt (suc depth) false (suc at) cs (inside tt) = rw add-zero at (spelt cs (suc depth) false (suc at) 0 (omega arith)) in
    rw add-zero (before-spelt depth filled at c cs s (sequence depth (filled || is_item s) (suc at) (piece_extra at s) cs)
    (step-spelt depth filled at c cs inside inner) (spelt cs depth (filled || is_item s) (suc at) (piece_extra at s)
    m))

pub read-spelled : (text : List ℕ) (t : Template) → template_of text ≡ ok t → Spells 0 t text
unfolding template_of
read-spelled text t e = go (sequence 0 false 0 0 text) e (spelt text 0 false 0 0 (omega arith))
  where
    whole : (u : Template) (front tail : List ℕ) → text ≡ front ++ tail → Tail 0 tail → Spells 0 u front → Spells 0 u text
    whole u front [] parts h p = subst (Spells 0 u) (sym (parts ∙ append-nil front)) p
    whole u front (c ∷ cs) parts h p = absurd h

    go : (r : ReadTo Template) → or_refused r ≡ ok t → IsSpelt 0 false (0 + 0) (drop 0 text) r → Spells 0 t text
    go (read u end) q k = subst (λ (x : Template). Spells 0 x text) (ok-inj q) (whole u k.front k.tail k.parts k.closed k.spells)
    go (stray p) q k = no-refusal q

pub spellings : Spellings
unfolding Spellings
spellings text t = (read-spelled text t, spelled-read text t)

pub one-tree : OneTree
unfolding OneTree
one-tree text t u p q = ok-inj (sym (spelled-read text t p) ∙ spelled-read text u q)
