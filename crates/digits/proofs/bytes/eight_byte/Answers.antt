-- Two numbers of four digits each make the byte.

use Rattle.std.proofs.Common.{◌∙◌}
use Rattle.digits.proofs.bytes.DigitEights.{eight-byte}
use Rattle.digits.proofs.bytes.eight_byte.Goals as goal

pub returns : goal.returns
returns c = c.joined.ensures ∙ eight-byte c.args.high c.args.eight.now c.requires.0 c.gathered.ensures.value c.gathered-2.ensures.value
