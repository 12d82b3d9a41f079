-- Two digits make the byte, or two halves do.

use Rattle.std.proofs.Common.{◌∙◌, map}
use Rattle.record.specs.Packing.{digit_value}
use Rattle.digits.proofs.bytes.DigitBytes.{hex-byte, binary-byte}
use Rattle.digits.proofs.Numeral.byte_of.Goals as goal

pub returns-then-self : goal.returns-then-self
returns-then-self c =
    rw c.if-self.true (c.joined.ensures ∙ hex-byte c.args.self.high (map digit_value c.args.digits.now) c.digit_at.ensures.value c.digit_at-then-self.ensures.value)

pub returns-else-self : goal.returns-else-self
returns-else-self c =
    rw c.if-self.false (c.joined-else-self.ensures ∙ binary-byte c.args.self.high (map digit_value c.args.digits.now) c.half.ensures.value c.half-else-self.ensures.value)
