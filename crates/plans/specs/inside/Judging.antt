-- One number of a plan judged by itself, and the contract of that.
use Rattle.std.specs.Prelude.{ℕ, ◌≡◌, Bool}
use Rattle.std.specs.declared.result.Result as Std
use Rattle.std.specs.declared.result.Result.TheVariants.{Ok, Err}
use Rattle.layout.specs.declared.Field.{Field}
use Rattle.layout.specs.declared.Refusal.{Refusal}
use Rattle.layout.specs.Refusals.{Result, ok, refused}
use Rattle.layout.specs.Codes.{field_of}
use Rattle.plans.specs.Plans.{planned_field}

-- the field that the number w stands for, or its refusal at the place i, by the judgement; and v is the judgement on w,
-- wherever it stands
abbrev pub judged_as : ℕ → ℕ → Std.Result (Unit {0}) Refusal → Result Field
judged_as w i (Ok u) = ok (field_of w)
judged_as w i (Err why) = refused why i

abbrev pub Judges : Bool → ℕ → Std.Result (Unit {0}) Refusal → Type 0
Judges packing w v = (i : ℕ) → planned_field packing i w ≡ judged_as w i v
