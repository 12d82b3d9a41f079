-- The place of a layout's refusal lies in its text, so that it fits the answer.
use Rattle.layout.specs.declared.Role.{Role}
use Rattle.std.specs.declared.option.Option.{Option}
use Rattle.std.specs.declared.option.Option.TheVariants.{Some, None}
use Rattle.std.specs.Prelude.{if◌then◌else◌}
use Prim.Native.Nat.{ℕ, zero, suc, ◌+◌, ◌<◌}
use native.Mathlib.Omega.{arith}
use mathlib.Core.Path.{◌≡◌, refl}
use mathlib.Core.Bool.{Bool, true, false, true≢false}
use mathlib.Core.List.{List, [], ◌∷◌}
use lib.Dec.{eqb}
use lib.ListN.{length, drop, length-drop}
use Rattle.layout.specs.declared.Field.{Field}
use Rattle.layout.specs.declared.Refusal.{Refusal}
use Rattle.layout.specs.declared.Refusal.TheVariants.{BadType, BadCount, BadMove}
use Rattle.layout.specs.Refusals.{Result, ok, refused, ◌>>=◌, demand}
use Rattle.layout.specs.Layout.{flagged, to_nat, count_of, count_length, in_limit, has_meaning, type_of, Step, space, field, bad, step_from, field_after, field_at, step_of, step_extra, step_then, fields_from, fields_of}

abbrev RefusedBelow : {A : Type 0} → ℕ → Result A → Type 0
RefusedBelow end (ok a) = Unit {0}
RefusedBelow end (refused why place) = place < end

abbrev BadBelow : ℕ → Step → Type 0
BadBelow end space = Unit {0}
BadBelow end (field f n) = Unit {0}
BadBelow end (bad why place) = place < end

two-checks : {A : Type 0} (at count end : ℕ) (l m : Bool) (a : A) → (l ≡ false → count < end) → at < end
    → RefusedBelow end (demand l BadCount count >>= (λ _. demand m BadMove at >>= (λ _. ok a)))
two-checks at count end false m a h k = h refl
two-checks at count end true false a h k = k
two-checks at count end true true a h k = tt

-- a count over the limit has a first digit
over-some : (cs : List ℕ) → in_limit (count_of cs) ≡ false → 0 < length cs
unfolding count_of
over-some [] e = absurd (true≢false e)
over-some (c ∷ cs) e = omega arith

typed-below : (packing : Bool) (at end : ℕ) (cs : List ℕ) (t : Option Role) → at + suc (length cs) ≡ end
    → RefusedBelow {A = Field × ℕ} end (elim t [ Some k ↦ field_after packing at k cs | None ↦ refused BadType at ])
unfolding field_after
typed-below packing at end cs (Some k) e =
    let u = to_nat (flagged cs) in
    let rest = drop u cs in
    two-checks at (suc at + u) end (in_limit (count_of rest)) (has_meaning packing k (count_of rest)) (record { role = k; unsigned = flagged cs; count = count_of rest }, u + count_length rest)
    (λ o. omega (arith, over-some rest o, length-drop u cs))
    (omega arith)
typed-below packing at end cs None e = omega arith

from-below : (end : ℕ) (o : Result (Field × ℕ)) → RefusedBelow end o → BadBelow end (step_from o)
from-below end (ok f) h = tt
from-below end (refused why place) h = h

step-below : (packing : Bool) (at c : ℕ) (cs : List ℕ) (end : ℕ) → at + suc (length cs) ≡ end → BadBelow end (step_of packing at c cs)
unfolding step_of field_at
step-below packing at c cs end e = chosen (eqb c 32)
  where
    chosen : (t : Bool) → BadBelow end (if t then space else step_from (field_at packing at c cs))
    chosen true = tt
    chosen false = from-below end (field_at packing at c cs) (typed-below packing at end cs (type_of c) e)

before-below : (end : ℕ) (s : Step) (o : Result (List Field)) → BadBelow end s → RefusedBelow end o → RefusedBelow end (step_then s o)
before-below end space o h k = k
before-below end (field f n) (ok fs) h k = tt
before-below end (field f n) (refused why place) h k = k
before-below end (bad why place) o h k = h

below-from : (packing : Bool) (cs : List ℕ) (at n end : ℕ) → at + length cs ≡ end → RefusedBelow end (fields_from packing at n cs)
unfolding fields_from
below-from packing [] at n end e = tt
below-from packing (c ∷ cs) at (suc n) end e = below-from packing cs (suc at) n end (omega arith)
below-from packing (c ∷ cs) at zero end e =
    let s = step_of packing at c cs in
    before-below end s (fields_from packing (suc at) (step_extra s) cs) (step-below packing at c cs end e) (below-from packing cs (suc at) (step_extra s) end (omega arith))

pub refused-inside : (packing : Bool) (text : List ℕ) (why : Refusal) (place : ℕ) → fields_of packing text ≡ refused why place → place < length text
unfolding fields_of
refused-inside packing text why place e =
    let h : RefusedBelow (length text) (fields_from packing 0 0 text) = below-from packing text 0 0 (length text) (omega arith) in
    rw e at h
