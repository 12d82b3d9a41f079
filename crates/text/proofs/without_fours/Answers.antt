-- The bytes passed from the end are spaces, so what is left trims to the same.
use native.Mathlib.Omega.{arith}
use mathlib.Core.Path.{sym, ◌∙◌}
use Rattle.text.proofs.TextLaws.{drop-four}
use Rattle.text.proofs.without_fours.Goals as goal

pub loop-k-preserved : goal.loop-k-preserved
loop-k-preserved c =
    let a = c.args in
    (omega arith, sym (drop-four a.input.now a.at c.loop-k.k c.four_at.result c.loop-k-test.true c.if-four_at-eq538976288.true c.four_at.ensures.1) ∙ c.loop-k.invariant.1)
