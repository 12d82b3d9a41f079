-- The readers of a template, one step at a time: where a reading ends, and what stands at a place.
use Rattle.std.specs.declared.option.Option.{Option}
use Rattle.std.specs.declared.option.Option.TheVariants.{Some, None}
use Rattle.std.specs.Prelude.{if◌then◌else◌}
use Prim.Native.Nat.{ℕ, zero, suc, ◌+◌, ◌-◌, ◌≤◌, ◌<◌, min}
use native.Mathlib.Nat.{add-zero}
use native.Mathlib.Omega.{arith}
use mathlib.Core.Path.{◌≡◌, refl, ap, ◌∙◌, subst}
use mathlib.Core.Bool.{Bool, true, false, ◌&&◌, ◌||◌, and-false}
use mathlib.Core.List.{List, [], ◌∷◌}
use borrow.Author.Tests.{eq-eqb, ne_eqb, eqb-true, lt-ltb, le-ltb}
use lib.Dec.{eqb, ltb}
use lib.ListN.{length, get_or, drop, length-drop, drop_of_length-le}
use lib.Seq.{drop-cons, drop-drop}
use Rattle.perl.specs.declared.tokens.Letter.{Letter}
use Rattle.perl.specs.Tokens.{max_template_count, max_depth, max_repeat, letter_of, number_in, digits_in, repeat_of}
use Rattle.perl.specs.Template.{Template, Item, done, group, ReadTo, read, stray, letter_at, group_at, item_at, Piece, space, close, item, bad, piece_from, piece_at, piece_extra, is_item, and_then, piece_then, sequence}
use Rattle.perl.specs.inside.Readers.{items_from, item_from}
use Rattle.perl.proofs.tokens.Numbers.{digits-within}

-- ---- where a reading ends: not before its start, inside the text, and inside a group before its end

abbrev pub Ends : ℕ → ℕ → ℕ → ReadTo Template → Type 0
Ends depth at end (read t e) = (at ≤ e) × (e + min 1 depth ≤ end)
Ends depth at end (stray p) = (at ≤ p) × (p ≤ end)

abbrev pub ItemEnds : ℕ → ℕ → ReadTo Item → Type 0
ItemEnds at end (read i e) = (at < e) × (e ≤ end)
ItemEnds at end (stray p) = (at ≤ p) × (p ≤ end)

abbrev pub StepEnds : ℕ → ℕ → Piece → Type 0
StepEnds at end space = Unit {0}
StepEnds at end close = Unit {0}
StepEnds at end (item i e) = (at < e) × (e ≤ end)
StepEnds at end (bad p) = (at ≤ p) × (p ≤ end)

letter-ends : (at : ℕ) (l : Option Letter) (cs : List ℕ) → ItemEnds at (suc at + length cs) (letter_at at l cs)
unfolding letter_at
letter-ends at (Some l) cs = (omega arith, omega (arith, digits-within max_template_count 0 cs))
letter-ends at None cs = (omega arith, omega arith)

group-ends : (depth at : ℕ) (cs : List ℕ) (r : ReadTo Template) → Ends (suc depth) (suc at) (suc at + length cs) r → ItemEnds at (suc at + length cs) (group_at at cs r)
unfolding group_at
group-ends depth at cs (read t e) h =
    let w : digits_in max_repeat 0 (drop (e - at) cs) ≤ length cs - (e - at) = rw (← length-drop) (digits-within max_repeat 0 (drop (e - at) cs)) in
    (omega arith, omega arith)
group-ends depth at cs (stray p) h = (omega arith, h.1)

item-ends : (depth at c : ℕ) (cs : List ℕ) (inside : Unit {0} → ReadTo Template)
    → Ends (suc depth) (suc at) (suc at + length cs) (inside tt)
    → ItemEnds at (suc at + length cs) (item_at depth at c cs inside)
unfolding item_at
item-ends depth at c cs inside h = go (eqb c 40 && ltb depth max_depth)
  where
    go : (t : Bool) → ItemEnds at (suc at + length cs) (elim t [ true ↦ group_at at cs (inside tt) | false ↦ letter_at at (letter_of c) cs ])
    go true = group-ends depth at cs (inside tt) h
    go false = letter-ends at (letter_of c) cs

from-ends : (at end : ℕ) (r : ReadTo Item) → ItemEnds at end r → StepEnds at end (piece_from r)
from-ends at end (read i e) h = h
from-ends at end (stray p) h = h

step-ends : (depth : ℕ) (filled : Bool) (at c : ℕ) (cs : List ℕ) (inside : Unit {0} → ReadTo Template) → Ends (suc depth) (suc at) (suc at + length cs) (inside tt)
    → StepEnds at (suc at + length cs) (piece_at depth filled at c cs inside)
unfolding piece_at
step-ends depth filled at c cs inside h = go (eqb c 32) (eqb c 41) (ltb 0 depth && filled)
  where
    go : (s t u : Bool) → StepEnds at (suc at + length cs) (if s then space else if t then (if u then close else bad at) else piece_from (item_at depth at c cs inside))
    go true t u = tt
    go false true true = tt
    go false true false = (omega arith, omega arith)
    go false false u = from-ends at _ (item_at depth at c cs inside) (item-ends depth at c cs inside h)

then-ends : (depth at end : ℕ) (i : Item) (r : ReadTo Template) → Ends depth at end r → Ends depth at end (and_then i r)
then-ends depth at end i (read t e) h = h
then-ends depth at end i (stray p) h = h

later : (depth at end at' : ℕ) (r : ReadTo Template) → at ≤ at' → Ends depth at' end r → Ends depth at end r
later depth at end at' (read t e) l h = (omega arith, h.1)
later depth at end at' (stray p) l h = (omega arith, h.1)

before-ends : (depth at end : ℕ) (s : Piece) (r : ReadTo Template) → at < end → StepEnds at end s → Ends depth (suc at + piece_extra at s) end r → Ends depth at end (piece_then at s r)
before-ends depth at end space r l h k = later depth at end (suc at + 0) r (omega arith) k
before-ends depth at end close r l h k = (omega arith, omega arith)
before-ends depth at end (item i e) r l h k = then-ends depth at end i r (later depth at end (suc at + (e - suc at)) r (omega arith) k)
before-ends depth at end (bad p) r l h k = h

pub extra-within : (at m : ℕ) (s : Piece) → StepEnds at (suc at + m) s → piece_extra at s ≤ m
extra-within at m space h = omega arith
extra-within at m close h = omega arith
extra-within at m (item i e) h = omega arith
extra-within at m (bad p) h = omega arith

pub ends : (cs : List ℕ) (depth : ℕ) (filled : Bool) (at n : ℕ) → n ≤ length cs → Ends depth (at + n) (at + length cs) (sequence depth filled at n cs)
unfolding sequence
ends [] depth filled at n h = go (eqb depth 0) (λ e. eqb-true depth 0 e)
  where
    go : (t : Bool) → (t ≡ true → depth ≡ 0) → Ends depth (at + n) (at + 0) (if t then read done at else stray at)
    go true e = let z : depth ≡ 0 = e refl in (omega arith, omega arith)
    go false e = (omega arith, omega arith)
ends (c ∷ cs) depth filled at (suc n) h =
    let k : suc at + length cs ≡ at + suc (length cs) = omega arith in
    let l : suc at + n ≡ at + suc n = omega arith in
    rw (k, l) at (ends cs depth filled (suc at) n (omega arith))
ends (c ∷ cs) depth filled at zero h =
    let k : suc at + length cs ≡ at + suc (length cs) = omega arith in
    let inside : Unit {0} → ReadTo Template = λ _. sequence (suc depth) false (suc at) 0 cs in
    let s : Piece = piece_at depth filled at c cs inside in
    let e : StepEnds at (suc at + length cs) s = step-ends depth filled at c cs inside (rw add-zero at (ends cs (suc depth) false (suc at) 0 (omega arith))) in
    rw add-zero (rw k at (before-ends depth at (suc at + length cs) s (sequence depth (filled || is_item s) (suc at) (piece_extra at s) cs) (omega arith) e
    (ends cs depth (filled || is_item s) (suc at) (piece_extra at s) (extra-within at (length cs) s e))))

-- from the start
pub ends-from : (cs : List ℕ) (depth : ℕ) (filled : Bool) (at : ℕ) → Ends depth at (at + length cs) (sequence depth filled at 0 cs)
ends-from cs depth filled at = rw add-zero at (ends cs depth filled at 0 (omega arith))

-- of the step at the front
pub step_from : (c : ℕ) (cs : List ℕ) (depth : ℕ) (filled : Bool) (at : ℕ) → StepEnds at (suc at + length cs) (piece_at depth filled at c cs (λ _. sequence (suc depth) false (suc at) 0 cs))
step_from c cs depth filled at = step-ends depth filled at c cs (λ _. sequence (suc depth) false (suc at) 0 cs) (ends-from cs (suc depth) false (suc at))

skipped : (cs : List ℕ) (depth : ℕ) (filled : Bool) (at n : ℕ) → n ≤ length cs → sequence depth filled at n cs ≡ sequence depth filled (at + n) 0 (drop n cs)
unfolding sequence
skipped [] depth filled at zero h = rw add-zero
skipped [] depth filled at (suc n) h = absurd (omega arith)
skipped (c ∷ cs) depth filled at zero h = rw add-zero
skipped (c ∷ cs) depth filled at (suc n) h =
    skipped cs depth filled (suc at) n (omega arith) ∙ ap (λ (i : ℕ). sequence depth filled i 0 (drop n cs)) (let e : suc at + n ≡ at + suc n = omega arith in e)

-- ---- readings at a place of a text

module _ (depth : ℕ) (text : List ℕ) where
  pub items-end : (filled : Bool) (at : ℕ) → at ≤ length text → Ends depth at (length text) (items_from depth filled text at)
  unfolding items_from
  items-end filled at h =
      let e : at + length (drop at text) ≡ length text = rw length-drop (omega arith) in
      rw e at (ends-from (drop at text) depth filled at)

  pub item-end : (p : ℕ) → p < length text → ItemEnds p (length text) (item_from depth text p)
  unfolding item_from
  item-end p h =
      let e : suc p + length (drop (suc p) text) ≡ length text = rw length-drop (omega arith) in
      rw e at (item-ends depth p (get_or text p 0) (drop (suc p) text) (λ _. sequence (suc depth) false (suc p) 0 (drop (suc p) text)) (ends-from (drop (suc p) text) (suc depth) false (suc p)))

  module _ (filled : Bool) (at : ℕ) where
    here : Piece
    here = piece_at depth filled at (get_or text at 0) (drop (suc at) text) (λ _. sequence (suc depth) false (suc at) 0 (drop (suc at) text))

    pub from-end-top : length text ≤ at → depth ≡ 0 → items_from depth filled text at ≡ read done at
    unfolding items_from sequence
    from-end-top h e = rw (drop_of_length-le text h, eq-eqb depth 0 e)

    pub from-end-open : length text ≤ at → (depth ≡ 0 → ⊥) → items_from depth filled text at ≡ stray at
    unfolding items_from sequence
    from-end-open h e = rw (drop_of_length-le text h, ne_eqb depth 0 e)

    module _ (inside : at < length text) where
      at_byte : (s : Piece) → here ≡ s → items_from depth filled text at ≡ piece_then at s (items_from depth (filled || is_item s) text (suc at + piece_extra at s))
      unfolding items_from sequence here
      at_byte s e =
          let cs : List ℕ = drop (suc at) text in
          let whole : suc at + length cs ≡ length text = rw length-drop (omega arith) in
          let k : StepEnds at (suc at + length cs) here = step_from (get_or text at 0) cs depth filled at in
          let l : piece_extra at s ≤ length cs = extra-within at (length cs) s (subst (StepEnds at (suc at + length cs)) e k) in
          ap (sequence depth filled at 0) (drop-cons text at 0 inside)
          ∙ ap (λ (z : Piece). piece_then at z (sequence depth (filled || is_item z) (suc at) (piece_extra at z) cs)) e
          ∙ ap (piece_then at s) (skipped cs depth (filled || is_item s) (suc at) (piece_extra at s) l
          ∙ ap (sequence depth (filled || is_item s) (suc at + piece_extra at s) 0) (drop-drop (piece_extra at s)
          (suc at) text))

      here-space : get_or text at 0 ≡ 32 → here ≡ space
      unfolding here piece_at
      here-space e = rw (eq-eqb (get_or text at 0) 32 e)

      pub from-space : get_or text at 0 ≡ 32 → items_from depth filled text at ≡ items_from depth filled text (suc at)
      from-space e = at_byte space (here-space e) ∙ (rw (or-false filled, add-zero))
        where
          or-false : (b : Bool) → (b || false) ≡ b
          or-false true = refl
          or-false false = refl

      module _ (no-space : get_or text at 0 ≡ 32 → ⊥) where
        module _ (closing : get_or text at 0 ≡ 41) where
          here-close : here ≡ (if ltb 0 depth && filled then close else bad at)
          unfolding here piece_at
          here-close = rw (ne_eqb (get_or text at 0) 32 no-space, eq-eqb (get_or text at 0) 41 closing)

          pub from-close : (depth ≡ 0 → ⊥) → filled ≡ true → items_from depth filled text at ≡ read done at
          from-close d f = at_byte close (here-close ∙ (rw (lt-ltb 0 depth (omega arith), f)))

          pub from-bare : (0 < depth → filled ≡ true → ⊥) → items_from depth filled text at ≡ stray at
          from-bare h = at_byte (bad at) (here-close ∙ go depth filled h)
            where
              go : (n : ℕ) (b : Bool) → (0 < n → b ≡ true → ⊥) → (if ltb 0 n && b then close else bad at) ≡ bad at
              go zero b h = refl
              go (suc n) false h = rw and-false
              go (suc n) true h = absurd (h (omega arith) refl)

        module _ (no-close : get_or text at 0 ≡ 41 → ⊥) where
          here-item : here ≡ piece_from (item_from depth text at)
          unfolding here piece_at item_from
          here-item = rw (ne_eqb (get_or text at 0) 32 no-space, ne_eqb (get_or text at 0) 41 no-close)

          pub from-item : (i : Item) (e : ℕ) → item_from depth text at ≡ read i e → items_from depth filled text at ≡ and_then i (items_from depth true text e)
          from-item i e q =
              let w : ItemEnds at (length text) (read i e) = subst (ItemEnds at (length text)) q (item-end at inside) in
              let next_place : suc at + (e - suc at) ≡ e = omega arith in
              at_byte (item i e) (here-item ∙ ap piece_from q) ∙ (rw (or-true filled, next_place))
            where
              or-true : (b : Bool) → (b || true) ≡ true
              or-true true = refl
              or-true false = refl

          pub from-stray : (p : ℕ) → item_from depth text at ≡ stray p → items_from depth filled text at ≡ stray p
          from-stray p q = at_byte (bad p) (here-item ∙ ap piece_from q)

  -- ---- the item at a place

  module _ (p : ℕ) where
    pub item-letter : (get_or text p 0 ≡ 40 → ⊥) → item_from depth text p ≡ letter_at p (letter_of (get_or text p 0)) (drop (suc p) text)
    unfolding item_from item_at
    item-letter e = rw (ne_eqb (get_or text p 0) 40 e, item_at)

    pub item-deep : get_or text p 0 ≡ 40 → max_depth ≤ depth → item_from depth text p ≡ stray p
    unfolding item_from item_at letter_of letter_at
    item-deep e h = rw (eq-eqb (get_or text p 0) 40 e, le-ltb depth max_depth h, item_at) (rw e)

    pub item-group : get_or text p 0 ≡ 40 → depth < max_depth → item_from depth text p ≡ group_at p (drop (suc p) text) (items_from (suc depth) false text (suc p))
    unfolding item_from item_at items_from
    item-group e h = rw (eq-eqb (get_or text p 0) 40 e, lt-ltb depth max_depth h, item_at)

-- ---- a group whose items were read up to its `)`

module _ (depth : ℕ) (text : List ℕ) (p : ℕ) (opening : get_or text p 0 ≡ 40) (shallow : depth < max_depth) (inside : p < length text) (t : Template) (close : ℕ)
    (e : items_from (suc depth) false text (suc p) ≡ read t close) where
  pub close-inside : (suc p ≤ close) × (close < length text)
  close-inside =
      let h : Ends (suc depth) (suc p) (length text) (read t close) = subst (Ends (suc depth) (suc p) (length text)) e (items-end (suc depth) text false (suc p) inside) in
      (h.0, omega arith)

  pub group-is : item_from depth text p ≡ read (group t (repeat_of (number_in max_repeat 0 (drop (suc close) text)))) (suc close + digits_in max_repeat 0 (drop (suc close) text))
  unfolding group_at
  group-is =
      let h = close-inside in
      let place : suc p + (close - p) ≡ suc close = omega arith in
      let rest : drop (close - p) (drop (suc p) text) ≡ drop (suc close) text = drop-drop (close - p) (suc p) text ∙ ap (λ (i : ℕ). drop i text) place in
      item-group depth text p opening shallow ∙ (rw (e, rest))
