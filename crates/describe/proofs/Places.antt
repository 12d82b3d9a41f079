-- The fields with their places: without the places they are the layout reader's, and a walk over the text that passes
-- spaces and whole fields comes to each of them.
use Rattle.layout.specs.declared.Role.{Role}
use Rattle.std.specs.declared.option.Option.{Option}
use Rattle.std.specs.declared.option.Option.TheVariants.{Some, None}
use Rattle.std.specs.Prelude.{if◌then◌else◌}
use Prim.Native.Nat.{ℕ, zero, suc, ◌+◌, ◌≤◌, ◌<◌}
use native.Mathlib.Nat.{add-zero}
use native.Mathlib.Numerals.{add-one}
use native.Mathlib.Omega.{arith}
use mathlib.Core.Path.{◌≡◌, refl, sym, ap, ◌∙◌}
use mathlib.Core.Bool.{Bool, true, false}
use mathlib.Core.List.{List, [], ◌∷◌}
use borrow.Author.Tests.{eq-eqb, eqb-true}
use lib.Dec.{eqb}
use lib.ListN.{length, get_or, drop, drop_of_length-le, length-drop}
use lib.Seq.{drop-nil, drop-cons, drop-drop}
use Rattle.layout.specs.declared.Field.{Field}
use Rattle.layout.specs.declared.Refusal.{Refusal}
use Rattle.layout.specs.declared.Refusal.TheVariants.{BadType, BadCount, BadMove}
use Rattle.layout.specs.Refusals.{Result, ok, refused, ◌>>=◌, demand}
use Rattle.layout.specs.Layout.{type_of, flagged, count_of, count_length, in_limit, has_meaning, to_nat, Step, space, field, bad, step_from, field_after, field_at, step_of, step_extra, step_then, fields_from, fields_of}
use Rattle.layout.specs.inside.Parsing.{TailAt}
use Rattle.layout.proofs.Laws.{no-refusal, bound, ok-inj}
use Rattle.layout.proofs.Steps.{count-within, flag-within}
use Rattle.describe.specs.Placed.{Placed, fields_in, without_places, placed_before, placed_from, placed_fields}
use Rattle.describe.specs.inside.Texts.{placed_rest, tail_length, placed_at}

-- ---- without the places

forget-before : (at c : ℕ) (s : Step) (r : Result (List Placed))
    → without_places (placed_before at c s r) ≡ step_then s (without_places r)
forget-before at c space r = refl
forget-before at c (field f n) (ok ps) = refl
forget-before at c (field f n) (refused why place) = refl
forget-before at c (bad why place) r = refl

module _ (packing : Bool) where
  forget-from : (cs : List ℕ) (at n : ℕ) → without_places (placed_from packing at n cs) ≡ fields_from packing at n cs
  unfolding placed_from fields_from
  forget-from [] at n = refl
  forget-from (c ∷ cs) at (suc n) = forget-from cs (suc at) n
  forget-from (c ∷ cs) at zero =
      let s : Step = step_of packing at c cs in
      forget-before at c s (placed_from packing (suc at) (step_extra s) cs) ∙ ap (step_then s) (forget-from cs (suc at) (step_extra s))

  pub forgotten : (text : List ℕ) → without_places (placed_fields packing text) ≡ fields_of packing text
  unfolding placed_fields fields_of
  forgotten text = forget-from text 0 0

-- the fields of an accepted text have places
pub record Placing (packing : Bool) (text : List ℕ) (fs : List Field) : Type 0 where
  pub placed : List Placed
  pub here : placed_fields packing text ≡ ok placed
  pub same : fields_in placed ≡ fs

module _ (packing : Bool) (text : List ℕ) where
  pub placing : (fs : List Field) → fields_of packing text ≡ ok fs → Placing packing text fs
  placing fs e = go (placed_fields packing text) refl (forgotten packing text ∙ e)
    where
      go : (r : Result (List Placed)) → placed_fields packing text ≡ r → without_places r ≡ ok fs
          → Placing packing text fs
      go (ok ps) p k = record { placed = ps; here = p; same = ok-inj k }
      go (refused why place) p k = no-refusal k

  pub placed-fields : (ps : List Placed) → placed_fields packing text ≡ ok ps → fields_of packing text ≡ ok (fields_in ps)
  placed-fields ps e = sym (forgotten packing text) ∙ ap without_places e

  -- a refused text is refused just so
  pub placed-refused : (why : Refusal) (place : ℕ) → fields_of packing text ≡ refused why place
      → placed_fields packing text ≡ refused why place
  placed-refused why place e = go (placed_fields packing text) (forgotten packing text ∙ e)
    where
      go : (r : Result (List Placed)) → without_places r ≡ refused why place → r ≡ refused why place
      go (ok ps) k = no-refusal (sym k)
      go (refused why' place') k = cc

  -- ---- one step of the text

  skipped : (cs : List ℕ) (at n : ℕ) → placed_from packing at n cs ≡ placed_from packing (at + n) 0 (drop n cs)
  unfolding placed_from
  skipped [] at n = rw drop-nil
  skipped (c ∷ cs) at zero = rw add-zero
  skipped (c ∷ cs) at (suc n) =
      skipped cs (suc at) n ∙ ap (λ (i : ℕ). placed_from packing i 0 (drop n cs)) (let e : suc at + n ≡ at + suc n = omega arith in e)

  -- what is read at the place `at`
  abbrev step : ℕ → Step
  step at = step_of packing at (get_or text at 0) (drop (suc at) text)

  at_byte : (at : ℕ) → at < length text
      → placed_rest packing text at ≡ placed_before at (get_or text at 0) (step at) (placed_rest packing text (suc at + step_extra (step at)))
  unfolding placed_rest placed_from
  at_byte at h =
      ap (placed_from packing at 0) (drop-cons text at 0 h)
      ∙ ap (placed_before at (get_or text at 0) (step at))
      (skipped (drop (suc at) text) (suc at) (step_extra (step at)) ∙ ap (placed_from packing (suc at + step_extra (step at)) 0) (drop-drop (step_extra (step at)) (suc at) text))

  pub at-start : placed_fields packing text ≡ placed_rest packing text 0
  unfolding placed_fields placed_rest
  at-start = refl

  pub at-end : (at : ℕ) → length text ≤ at → placed_rest packing text at ≡ ok []
  unfolding placed_rest placed_from
  at-end at h = rw (drop_of_length-le text h)

  pub over-space : (at : ℕ) → at < length text → get_or text at 0 ≡ 32
      → placed_rest packing text at ≡ placed_rest packing text (at + 1)
  unfolding step_of
  over-space at h e = at_byte at h ∙ rw (eq-eqb (get_or text at 0) 32 e, add-zero, add-one)

-- ---- what a step has read: a space, or a type character with its flag and its count

abbrev pub Reads : ℕ → List ℕ → Step → Type 0
Reads c cs space = c ≡ 32
Reads c cs (field f m) = (type_of c ≡ Some f.role) × (m ≡ tail_length cs)
Reads c cs (bad why place) = Unit {0}

module _ (packing : Bool) (at c : ℕ) (cs : List ℕ) where
  reads_end : (p q : ℕ) (f : Field) (l m : Bool) → type_of c ≡ Some f.role
      → Reads c cs (step_from (demand l BadCount p >>= (λ _. demand m BadMove q >>= (λ _. ok (f, tail_length cs)))))
  reads_end p q f false m e = tt
  reads_end p q f true false e = tt
  reads_end p q f true true e = (e, refl)

  reads-typed : (t : Option Role) → type_of c ≡ t
      → Reads c cs (step_from (elim t [ Some k ↦ field_after packing at k cs | None ↦ refused BadType at ]))
  unfolding field_after
  reads-typed (Some k) e =
      let u = flagged cs in
      let n = count_of (drop (to_nat u) cs) in
      reads_end (suc at + to_nat u) at (record { role = k; unsigned = u; count = n }) (in_limit n) (has_meaning packing k n) e
  reads-typed None e = tt

  pub reads-step : Reads c cs (step_of packing at c cs)
  unfolding step_of field_at
  reads-step = chosen (eqb c 32) refl (reads-typed (type_of c) refl)
    where
      chosen : (t : Bool) → eqb c 32 ≡ t → Reads c cs (step_from (field_at packing at c cs))
          → Reads c cs (if t then space else step_from (field_at packing at c cs))
      chosen true e h = eqb-true c 32 e
      chosen false e h = h

-- ---- the place after a flag and a count

module _ (text : List ℕ) (p b v e : ℕ) (tail : TailAt text (p + 1) b v e) where
  abbrev u : ℕ
  u = to_nat (flagged (drop (suc p) text))

  bit : b ≡ u
  bit = rw add-one at tail.0

  from-there : drop (p + 1 + b) text ≡ drop u (drop (suc p) text)
  from-there =
      ap (λ (i : ℕ). drop i text) (let h : p + 1 + b ≡ suc p + u = omega (arith, bit) in h) ∙ sym (drop-drop u (suc p) text)

  pub next_place : e ≡ suc p + tail_length (drop (suc p) text)
  next_place =
      let l : count_length (drop (p + 1 + b) text) ≡ count_length (drop u (drop (suc p) text)) =
      ap count_length from-there in
      omega (arith, tail.1.1, bit)

pub tail_within : (cs : List ℕ) → tail_length cs ≤ length cs
tail_within cs =
    let u : ℕ = to_nat (flagged cs) in
    omega (arith, flag-within cs, count-within (drop u cs), length-drop u cs)

-- a field ends inside its text
pub tail-inside : (text : List ℕ) (at : ℕ) → at < length text → suc at + tail_length (drop (suc at) text) ≤ length text
tail-inside text at h = omega (arith, tail_within (drop (suc at) text), length-drop (suc at) text)

-- ---- the field that stands at a place, and those after it

pub record Standing (packing : Bool) (text : List ℕ) (at : ℕ) (qs : List Placed) : Type 0 where
  pub what : Field
  pub others : List Placed
  pub split : qs ≡ placed_at text at what ∷ others
  pub after : placed_rest packing text (suc at + tail_length (drop (suc at) text)) ≡ ok others

pub standing : (packing : Bool) (text : List ℕ) (at : ℕ) (qs : List Placed) → at < length text
    → (get_or text at 0 ≡ 32 → ⊥) → placed_rest packing text at ≡ ok qs
    → Standing packing text at qs
standing packing text at qs h solid e =
    go (step packing text at) (reads-step packing at (get_or text at 0) (drop (suc at) text)) (sym (at_byte packing text at h) ∙ e)
  where
    go : (s : Step) → Reads (get_or text at 0) (drop (suc at) text) s
        → placed_before at (get_or text at 0) s (placed_rest packing text (suc at + step_extra s)) ≡ ok qs
        → Standing packing text at qs
    go space t k = absurd (solid t)
    go (field f m) t k =
        let (rs, k₁, k₂) =
        bound (placed_rest packing text (suc at + m)) (λ ps. ok (record { what = f; place = at; letter = get_or text at 0; size = suc m } ∷ ps)) qs k in
        record { what = f; others = rs; split = sym (ok-inj k₂) ∙ ap (λ (n : ℕ). record { what = f; place = at; letter = get_or text at 0; size = suc n } ∷ rs) t.1; after = ap (λ (i : ℕ). placed_rest packing text (suc at + i)) (sym t.1) ∙ k₁ }
    go (bad why place) t k = no-refusal k
