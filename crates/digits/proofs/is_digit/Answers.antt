-- The test is the definition's, in each base.

use Rattle.std.proofs.Common.{sym, ◌∙◌}
use Rattle.digits.proofs.DigitLaws.{hex-digit, binary-digit}
use borrow.Author.Tests.{eq-eqb, ne_eqb}
use Rattle.digits.proofs.is_digit.Goals as goal

pub returns-then-hex : goal.returns-then-hex
returns-then-hex c = rw c.if-hex.true (c.is_ascii_hexdigit.ensures.value ∙ sym (hex-digit c.args.c))

pub returns-then-c-eq48 : goal.returns-then-c-eq48
returns-then-c-eq48 c = rw (c.if-hex.false, ← binary-digit c.args.c, eq-eqb c.args.c 48 c.if-c-eq48.true)

pub returns-else-c-eq48 : goal.returns-else-c-eq48
returns-else-c-eq48 c = rw (c.if-hex.false, ← binary-digit c.args.c, ne_eqb c.args.c 48 c.if-c-eq48.false)
