-- The four digits are those of the byte's half.

use Rattle.std.proofs.Common.{arith, true, map}
use Rattle.record.specs.Bytes.{number}
use Rattle.record.specs.Packing.{digit_value}
use Rattle.digits.proofs.bytes.DigitBytes.{half}
use Rattle.digits.proofs.Numeral.half.Goals as goal

pub returns-then-self-clause-value : goal.returns-then-self-clause-value
unfolding number
returns-then-self-clause-value c =
    rw (c.if-self.true, half true (map digit_value c.args.digits.now) c.args.first c.requires.1 c.digit_at-a.ensures.value c.digit_at-b.ensures.value c.digit_at-c.ensures.value c.digit_at-d.ensures.value)
    (omega arith)

pub returns-else-self-clause-value : goal.returns-else-self-clause-value
unfolding number
returns-else-self-clause-value c =
    rw (c.if-self.false, half true (map digit_value c.args.digits.now) c.args.first c.requires.1 c.digit_at-a.ensures.value c.digit_at-b.ensures.value c.digit_at-c.ensures.value c.digit_at-d.ensures.value)
    (omega arith)
