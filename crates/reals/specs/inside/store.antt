-- One real that is a single in its field, as it is stored.
use Rattle.std.specs.Prelude.{ℕ, Bool, List}
use Rattle.real.specs.Narrowing.{single_of}
use Rattle.record.specs.Bytes.{digits, ordered}

-- the four bytes of the single nearest to the double d
unfoldable pub single_bytes : Bool → ℕ → List ℕ
single_bytes big d = ordered big (digits 256 4 (single_of d))
