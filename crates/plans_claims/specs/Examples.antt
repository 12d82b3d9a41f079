-- Worked examples of plans, all in one statement, `PlansAsTold`: what is prepared, what is refused, and where. It is
-- proved in proofs/Examples.antt.
use Rattle.std.specs.Prelude.{ℕ, Bool, true, ◌&&◌, List, [], ◌∷◌, T, eqb, replicate}
use Prim.Native.String.{String}
use Rattle.layout.specs.Quoted.{bytes}
use Rattle.record.specs.declared.Answer.{Answer}
use Rattle.plans.specs.Plans.{prepare, pack_plan, read_plan}
use Rattle.plans_claims.specs.Claim.{made_by}

pub data Example : Type 0 where
  -- a layout, how many numbers the run has; the three numbers of the answer
  preparing : String → ℕ → ℕ → ℕ → ℕ → Example
  -- a plan; the number and the place that packing no slots into nothing answers, and those of reading nothing
  forged : List ℕ → ℕ → ℕ → ℕ → ℕ → Example
  -- a layout that is prepared; the number and the place that packing no slots into nothing by its plan answers, and
  -- those of reading nothing
  planned : String → ℕ → ℕ → ℕ → ℕ → Example

abbrev answered : Answer → ℕ → ℕ → ℕ → Bool
answered a number first second = eqb a.number number && eqb a.first first && eqb a.second second

both : List ℕ → ℕ → ℕ → ℕ → ℕ → Bool
unfolding pack_plan read_plan
both plan packed at read place =
    answered (pack_plan plan [] [] []).answer packed at 0 && answered (read_plan plan [] [] [] 0).answer.answer read place 0

pub as_told : Example → Bool
unfolding both prepare
as_told (preparing layout room number first second) = answered (prepare (bytes layout) (replicate room 9)).answer number first second
as_told (forged plan packed at read place) = both plan packed at read place
as_told (planned layout packed at read place) = both (made_by (prepare (bytes layout) (replicate 9 9))) packed at read place

unfoldable pub all_as_told : List Example → Bool
unfolding as_told
all_as_told [] = true
all_as_told (e ∷ es) = as_told e && all_as_told es

unfoldable pub examples : List Example
examples =
    -- as many numbers as fields, and the slots that they take; a run that has just enough, and one that has not
    preparing "a6 A12 Su x2" 9 0 4 3
    ∷ preparing "a6 A12 Su x2" 4 0 4 3
    ∷ preparing "a6 A12 Su x2" 3 11 0 0
    ∷ preparing "" 0 0 0 0
    -- as reading judges: `x*` is taken, and refusals stand at their bytes; 4 before 11
    ∷ preparing "x* a" 9 0 2 1
    ∷ preparing "a t" 9 2 2 0
    ∷ preparing "cu32769" 9 3 2 0
    ∷ preparing "a @" 0 4 2 0
    -- `x*` by a plan: packing refuses it at its field, reading goes on
    ∷ planned "X  x*" 4 1 0 0
    -- a field that needs a slot
    ∷ planned "x a" 5 0 5 0
    -- numbers that no layout has: the type that no letter has, and one far off; a count over the limit; `@` without a
    -- count
    ∷ forged (25 ∷ 7 ∷ []) 2 1 2 1
    ∷ forged (255 ∷ []) 2 0 2 0
    ∷ forged (25 ∷ 16778776 ∷ []) 3 1 3 1
    ∷ forged (26 ∷ []) 4 0 4 0
    -- 2 before 3, 3 before 4, and field by field
    ∷ forged (4294967295 ∷ []) 2 0 2 0
    ∷ forged (16778778 ∷ []) 3 0 3 0
    ∷ forged (26 ∷ 7 ∷ []) 4 0 4 0
    ∷ []

abbrev pub PlansAsTold : Type 0
PlansAsTold = T (all_as_told examples)
