-- The laws of a digit's value say so for each base.

use Rattle.digits.proofs.DigitLaws.{hex-value, binary-value}
use Rattle.digits.proofs.Numeral.value.Goals as goal

pub returns-then-self : goal.returns-then-self
returns-then-self c = hex-value c.args.c (rw c.if-self.true at c.requires)

pub returns-else-self : goal.returns-else-self
returns-else-self c = binary-value c.args.c (rw c.if-self.false at c.requires)
