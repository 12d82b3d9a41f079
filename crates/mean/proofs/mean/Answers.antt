-- The call's answer follows from the tally of its legs.
use Rattle.std.proofs.Common.{◌∙◌, sym}
use Rattle.mean.proofs.marks.WalkLaws.{call-done, call-refused}
use Rattle.mean.proofs.mean.Goals as goal

pub returns-in-Ok : goal.returns-in-Ok
returns-in-Ok c = rw (c.accepted.ensures, c.mean.ensures) (call-done _ _ _ (sym c.in-Ok.is ∙ c.tally.ensures))

pub returns-in-Err : goal.returns-in-Err
returns-in-Err c = call-refused _ _ _ (sym c.in-Err.is ∙ c.tally.ensures)
