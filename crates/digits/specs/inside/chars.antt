-- The characters that the digits of a byte make.
use Rattle.std.specs.Prelude.{ℕ, Bool, List, map}
use Rattle.record.specs.Bytes.{digits, ordered}
use Rattle.record.specs.Geometry.{base, per_byte}
use Rattle.record.specs.Reading.{digit_char}

-- the characters of a byte's digits
unfoldable pub chars_of : Bool → Bool → ℕ → List ℕ
unfolding digits digit_char
chars_of hex high b = map digit_char (ordered high (digits (base hex) (per_byte hex) b))

-- the characters of four binary digits, the lowest first
unfoldable pub four_chars : ℕ → List ℕ
unfolding digits digit_char
four_chars n = map digit_char (digits 2 4 n)
