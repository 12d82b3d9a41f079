-- The byte that digits make.
use Rattle.std.specs.Prelude.{ℕ, Bool, List}
use Rattle.record.specs.Bytes.{fit, number, ordered}
use Rattle.record.specs.Geometry.{base, per_byte}

-- the byte that digits make: no more than fill it, and 0 for each that is missing
unfoldable pub byte_of : Bool → Bool → List ℕ → ℕ
unfolding fit number
byte_of hex high ds = number (base hex) (ordered high (fit (per_byte hex) 0 ds))
