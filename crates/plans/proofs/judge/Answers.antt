-- The loop keeps `Judging`: the fields so far are those of the numbers before number i.
use native.Mathlib.Omega.{arith}
use mathlib.Core.Path.{◌∙◌}
use Rattle.layout.proofs.Decoded.{code-slots}
use Rattle.plans.proofs.Fields.{good-code}
use Rattle.plans.proofs.Judging.{judging-none, judging-more, judging-bad, judging-done}
use Rattle.plans.proofs.judge.Goals as goal

pub loop-i-init : goal.loop-i-init
loop-i-init c = judging-none _ _

pub returns-in-Err : goal.returns-in-Err
returns-in-Err c = rw c.at.ensures (judging-bad _ _ _ _ c.loop-i.invariant _ c.loop-i-test.true c.requires (c.in-Err.ensures _))

pub loop-i-preserved : goal.loop-i-preserved
loop-i-preserved c =
    let good = c.in_default.ensures _ in
    judging-more _ _ _ _ c.loop-i.invariant _ c.loop-i-test.true good (c.slots_in-slots.ensures ∙ code-slots _) (good-code _ _ _ good)

pub overflow_add-slots : goal.overflow_add-slots
overflow_add-slots c = omega (arith, (loop-i-preserved c).less, (loop-i-preserved c).within, c.requires)

pub returns : goal.returns
returns c = judging-done _ _ _ _ c.loop-i.invariant c.loop-i-test.false c.requires
