-- The digits that are taken are all that fill the byte, or all that are there, or none.

use Rattle.std.proofs.Common.{sym, ◌∙◌, arith, ◌+◌, length}
use Rattle.digits.proofs.bytes.DigitBytes.{next-part, byte-none}
use Rattle.digits.proofs.Numeral.next_byte.Goals as goal

pub returns-then-i-per : goal.returns-then-i-per
returns-then-i-per c =
    let a = c.args in
    c.byte_of.ensures ∙ next-part a.self.hex a.self.high a.digits.now a.i (a.i + c.per_byte-per.result) (omega (arith, c.per_byte-per.ensures))

pub returns-then-i-digits : goal.returns-then-i-digits
returns-then-i-digits c =
    let a = c.args in
    c.byte_of-then-i-digits.ensures ∙ next-part a.self.hex a.self.high a.digits.now a.i (length a.digits.now) (omega arith)

pub returns-else-i-digits : goal.returns-else-i-digits
returns-else-i-digits c =
    let a = c.args in
    sym (byte-none a.self.hex a.self.high a.digits.now a.i c.if-i-digits.false)
