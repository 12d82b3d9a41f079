-- The subtraction leaves the four digits, and one product gathers them, with the factor for their order.

use Rattle.digits.proofs.bytes.DigitEights.{gathered-four}
use Rattle.digits.proofs.bytes.gathered.Goals as goal
use Rattle.digits.proofs.bytes.gathered.Goals.{then-high, else-high}
use Rattle.std.proofs.Common.{arith, true, false, ◌∙◌}

pub overflow_sub-result : goal.overflow_sub-result
overflow_sub-result c = let h = gathered-four true c.args.four.now c.requires.0 c.requires.1 in omega (arith, h.0)

pub returns-clause-value : goal.returns-clause-value
returns-clause-value c = elim c.if-high.branch [
  | then-high w ↦ rw (c.from-x.ensures ∙ c.from_le_bytes.ensures, w.mover-is, w.if-high.true) (gathered-four true c.args.four.now c.requires.0 c.requires.1).1
  | else-high w ↦ rw (c.from-x.ensures ∙ c.from_le_bytes.ensures, w.mover-is, w.if-high.false) (gathered-four false c.args.four.now c.requires.0 c.requires.1).1
]
