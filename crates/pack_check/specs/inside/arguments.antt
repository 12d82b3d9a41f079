-- The answer of a check, as code gives it.
use Rattle.std.specs.declared.result.Result as Std
use Rattle.std.specs.declared.result.Result.TheVariants.{Ok, Err}
use Rattle.layout.specs.declared.Refused.{Refused}
use Rattle.layout.specs.Refusals.{Result, ok, refused}

abbrev pub answer_of : {A : Type 0} → Result A → Std.Result A Refused
answer_of (ok a) = Ok a
answer_of (refused why place) = Err (record { why = why; place = place })
