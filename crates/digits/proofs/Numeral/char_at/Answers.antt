-- The digit is taken from its place.

use Rattle.digits.proofs.chars.CharLaws.{char-found}
use Rattle.digits.proofs.Numeral.char_at.Goals as goal

pub returns : goal.returns
returns c =
    let a = c.args in
    char-found a.self.hex a.self.high a.b a.j _ _ _ c.requires c.place.ensures.value c.digit.ensures.value c.char_of.ensures
