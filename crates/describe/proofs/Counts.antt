-- The counts of an accepted layout keep to their limit and mean something, since other fields are refused with 3 and 4;
-- and a text has no more fields than bytes.
use Rattle.layout.specs.declared.Role.{Role}
use Rattle.std.specs.declared.option.Option.{Option}
use Rattle.std.specs.declared.option.Option.TheVariants.{Some, None}
use Rattle.std.specs.Prelude.{if◌then◌else◌}
use Prim.Native.Nat.{ℕ, zero, suc, ◌+◌, ◌≤◌}
use native.Mathlib.Omega.{arith}
use mathlib.Core.Path.{◌≡◌, refl, ap, subst}
use mathlib.Core.Bool.{Bool, true, false}
use mathlib.Core.List.{List, [], ◌∷◌}
use lib.Dec.{eqb}
use lib.ListN.{length, drop}
use Rattle.layout.specs.declared.Field.{Field}
use Rattle.layout.specs.declared.Refusal.TheVariants.{BadType, BadCount, BadMove}
use Rattle.layout.specs.Refusals.{Result, ok, refused, ◌>>=◌, demand}
use Rattle.layout.specs.Layout.{type_of, flagged, count_of, count_length, in_limit, has_meaning, to_nat, Step, space, field, bad, step_from, field_after, field_at, step_of, step_extra, step_then, fields_from, fields_of}
use Rattle.layout.proofs.Laws.{no-refusal, bound, ok-inj}

-- what numbers 3 and 4 leave of a field
abbrev pub Kept : Bool → Field → Type 0
Kept packing f = (in_limit f.count ≡ true) × (has_meaning packing f.role f.count ≡ true)

abbrev pub AllKept : Bool → List Field → Type 0
AllKept packing [] = Unit {0}
AllKept packing (f ∷ fs) = Kept packing f × AllKept packing fs

-- and of its count alone
abbrev pub AllCounted : List Field → Type 0
AllCounted [] = Unit {0}
AllCounted (f ∷ fs) = (in_limit f.count ≡ true) × AllCounted fs

-- ---- one step of the text

module _ (packing : Bool) where
  abbrev KeptIn : Step → Type 0
  KeptIn space = Unit {0}
  KeptIn (field f n) = Kept packing f
  KeptIn (bad why place) = Unit {0}

  kept-end : (p q : ℕ) (f : Field) (n : ℕ) (l m : Bool) → in_limit f.count ≡ l
      → has_meaning packing f.role f.count ≡ m
      → KeptIn (step_from (demand l BadCount p >>= (λ _. demand m BadMove q >>= (λ _. ok (f, n)))))
  kept-end p q f n false m e h = tt
  kept-end p q f n true false e h = tt
  kept-end p q f n true true e h = (e, h)

  kept-typed : (at : ℕ) (cs : List ℕ) (t : Option Role)
      → KeptIn (step_from (elim t [ Some k ↦ field_after packing at k cs | None ↦ refused BadType at ]))
  unfolding field_after
  kept-typed at cs (Some k) =
      let u = flagged cs in
      let n = count_of (drop (to_nat u) cs) in
      kept-end (suc at + to_nat u) at (record { role = k; unsigned = u; count = n }) (to_nat u + count_length (drop (to_nat u) cs)) (in_limit n) (has_meaning packing k n) refl refl
  kept-typed at cs None = tt

  kept_step : (at c : ℕ) (cs : List ℕ) → KeptIn (step_of packing at c cs)
  unfolding step_of field_at
  kept_step at c cs = chosen (eqb c 32) (step_from (field_at packing at c cs)) (kept-typed at cs (type_of c))
    where
      chosen : (t : Bool) (s : Step) → KeptIn s → KeptIn (if t then space else s)
      chosen true s h = tt
      chosen false s h = h

  -- ---- the whole text

  kept-before : (s : Step) (rest : Result (List Field)) → KeptIn s
      → ((gs : List Field) → rest ≡ ok gs → AllKept packing gs)
      → (fs : List Field) → step_then s rest ≡ ok fs → AllKept packing fs
  kept-before space rest h ih fs e = ih fs e
  kept-before (field f n) rest h ih fs e =
      let (gs, e₁, e₂) = bound rest (λ gs. ok (f ∷ gs)) fs e in
      subst (AllKept packing) (ok-inj e₂) (h, ih gs e₁)
  kept-before (bad why place) rest h ih fs e = no-refusal e

  kept_from : (cs : List ℕ) (at n : ℕ) (fs : List Field) → fields_from packing at n cs ≡ ok fs → AllKept packing fs
  unfolding fields_from
  kept_from [] at n fs e = subst (AllKept packing) (ok-inj e) tt
  kept_from (c ∷ cs) at (suc n) fs e = kept_from cs (suc at) n fs e
  kept_from (c ∷ cs) at zero fs e =
      kept-before (step_of packing at c cs) (fields_from packing (suc at) (step_extra (step_of packing at c cs)) cs) (kept_step at c cs)
      (λ gs k. kept_from cs (suc at) (step_extra (step_of packing at c cs)) gs k) fs e

  pub fields-kept : (text : List ℕ) (fs : List Field) → fields_of packing text ≡ ok fs → AllKept packing fs
  unfolding fields_of
  fields-kept text fs e = kept_from text 0 0 fs e

  kept-counted : (fs : List Field) → AllKept packing fs → AllCounted fs
  kept-counted [] h = tt
  kept-counted (f ∷ fs) h = (h.0.0, kept-counted fs h.1)

  pub counts-limited : (text : List ℕ) (fs : List Field) → fields_of packing text ≡ ok fs → AllCounted fs
  counts-limited text fs e = kept-counted fs (fields-kept text fs e)

-- ---- no more fields than bytes

few-before : (s : Step) (rest : Result (List Field)) (size : ℕ) → ((gs : List Field) → rest ≡ ok gs → length gs ≤ size)
    → (fs : List Field) → step_then s rest ≡ ok fs → length fs ≤ suc size
few-before space rest size ih fs e = omega (arith, ih fs e)
few-before (field f n) rest size ih fs e =
    let (gs, e₁, e₂) = bound rest (λ gs. ok (f ∷ gs)) fs e in
    let same : f ∷ gs ≡ fs = ok-inj e₂ in
    omega (arith, ih gs e₁, ap length same)
few-before (bad why place) rest size ih fs e = no-refusal e

few-from : (packing : Bool) (cs : List ℕ) (at n : ℕ) (fs : List Field) → fields_from packing at n cs ≡ ok fs
    → length fs ≤ length cs
unfolding fields_from
few-from packing [] at n fs e = let none : [] ≡ fs = ok-inj e in omega (arith, ap length none)
few-from packing (c ∷ cs) at (suc n) fs e = omega (arith, few-from packing cs (suc at) n fs e)
few-from packing (c ∷ cs) at zero fs e =
    few-before (step_of packing at c cs) (fields_from packing (suc at) (step_extra (step_of packing at c cs)) cs) (length cs)
    (λ gs k. few-from packing cs (suc at) (step_extra (step_of packing at c cs)) gs k) fs e

pub fields-few : (packing : Bool) (text : List ℕ) (fs : List Field) → fields_of packing text ≡ ok fs
    → length fs ≤ length text
unfolding fields_of
fields-few packing text fs e = few-from packing text 0 0 fs e
