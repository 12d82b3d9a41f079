-- What the loop keeps is `Walking`: the walk from here on gives what the walk from the start gives.
use Rattle.std.proofs.Common.{◌∙◌, sym, arith}
use Rattle.mean.proofs.marks.WalkLaws.{walking-none, walking-done, walking-stop, walking-next, sizes-refused}
use Rattle.mean.proofs.tally.Goals as goal

pub returns-then-not-table_fits : goal.returns-then-not-table_fits
returns-then-not-table_fits c =
    rw c.refused.ensures (sizes-refused _ _ (sym c.table_fits.ensures ∙ c.if-not-table_fits.true))

pub loop-k-init : goal.loop-k-init
loop-k-init c = walking-none _ _ (sym c.table_fits.ensures ∙ c.if-not-table_fits.false)

pub returns-in_err-t : goal.returns-in_err-t
returns-in_err-t c =
    let e = sym c.in_err-t.was ∙ c.with.ensures in
    let s = walking-stop _ _ _ _ c.loop-k.invariant c.loop-k-test.true c.in_err-t.field-0.0 (rw c.slot_at.ensures at e) in
    grind (arith, s, c.from_residual.ensures)

pub loop-k-preserved : goal.loop-k-preserved
loop-k-preserved c =
    let e = sym c.in_ok-t.was ∙ c.with.ensures in
    walking-next _ _ _ _ c.loop-k.invariant c.loop-k-test.true _ (rw c.slot_at.ensures at e)

pub returns : goal.returns
returns c = walking-done _ _ _ _ c.loop-k.invariant c.loop-k-test.false
