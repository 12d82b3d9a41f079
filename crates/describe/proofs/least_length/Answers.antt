-- What the loop keeps is `Passing`: the pass from here on ends where the pass from the start does.
use native.Mathlib.Omega.{arith}
use Rattle.describe.proofs.Calls.{passing-none, passing-near, passing-next, passing-done}
use Rattle.describe.proofs.least_length.Goals as goal

pub loop-code-init : goal.loop-code-init
loop-code-init c = rw c.new-c.ensures (passing-none _ _ c.requires)

pub step-c-requires : goal.step-c-requires
step-c-requires c =
    (c.field_of-f.ensures.role, c.field_of-f.ensures.count, passing-near _ _ c.requires _ _ c.loop-code.invariant)

pub loop-code-preserved : goal.loop-code-preserved
loop-code-preserved c =
    passing-next _ _ c.requires _ _ c.loop-code.invariant (omega arith) _ c.field_of-f.ensures.same _ c.step-c.ensures

pub returns : goal.returns
returns c = passing-done _ _ c.requires _ _ c.loop-code.invariant (omega arith)
