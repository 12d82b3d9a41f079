-- A shift divides by a power of two, and the laws of shifted digits say so for each base.

use Rattle.digits.proofs.chars.CharLaws.{hex-shifted, binary-shifted}
use Rattle.digits.proofs.Numeral.digit.Goals as goal

pub returns-then-self-clause-value : goal.returns-then-self-clause-value
returns-then-self-clause-value c = rw c.if-self.true (hex-shifted c.args.b c.args.q (rw c.if-self.true at c.requires))

pub returns-else-self-clause-value : goal.returns-else-self-clause-value
returns-else-self-clause-value c = rw c.if-self.false (binary-shifted c.args.b c.args.q (rw c.if-self.false at c.requires))
