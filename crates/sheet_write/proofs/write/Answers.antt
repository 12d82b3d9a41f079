-- Check by check, each way out is one law of the definition.
use Rattle.std.proofs.Common.{sym, ◌∙◌}
use Rattle.sheet.proofs.Calls.{write-sizes, write-bad}
use Rattle.sheet_write.proofs.write.Goals as goal

pub returns-then-not-lengths_fit : goal.returns-then-not-lengths_fit
returns-then-not-lengths_fit c = rw c.refused.ensures (write-sizes _ _ _ (sym c.lengths_fit.ensures ∙ c.if-not-lengths_fit.true))

pub returns-in-Err : goal.returns-in-Err
returns-in-Err c =
    let (k, bad, is) = c.in-Err.ensures in
    rw is (write-bad _ _ _ (sym c.lengths_fit.ensures ∙ c.if-not-lengths_fit.false) _ _ bad)
