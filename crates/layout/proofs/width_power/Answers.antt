-- The power is a law of the sizes, of integers and of reals.
use Rattle.layout.proofs.Numbered.{integer-power, real-power}
use native.Mathlib.Omega.{arith}
use Rattle.layout.proofs.width_power.Goals as goal

pub returns-then-d-le-LAST_INTEGERS : goal.returns-then-d-le-LAST_INTEGERS
returns-then-d-le-LAST_INTEGERS c = (integer-power _ c.requires.0 c.if-d-le-LAST_INTEGERS.true, omega arith)

pub returns-else-d-le-LAST_INTEGERS : goal.returns-else-d-le-LAST_INTEGERS
returns-else-d-le-LAST_INTEGERS c = (real-power _ c.if-d-le-LAST_INTEGERS.false c.requires.1, omega arith)
