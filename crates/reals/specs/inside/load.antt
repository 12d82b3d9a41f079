-- One real that is a single in its field, as it is read. And many reals, as they are read.
use Rattle.std.specs.Prelude.{ℕ, ◌*◌, Bool, List}
use Rattle.real.specs.Widening.{double_of}
use Rattle.layout.specs.declared.Shape.TheVariants.{Reals}
use Rattle.layout.specs.Layout.{real_size}
use Rattle.record.specs.Bytes.{part, number, ordered, number_bytes}
use Rattle.record.specs.Table.{integer_bytes}
use Rattle.record.specs.Reading.{loaded}

-- the eight bytes in the area of the double of the single that a field's four bytes make
unfoldable pub double_bytes : Bool → List ℕ → List ℕ
double_bytes big bs = number_bytes 8 (double_of (number 256 (ordered big bs)))

-- the bytes in the area of the n reals that stand in a record at a place; u is their flag
abbrev pub reals_at : Bool → Bool → Bool → ℕ → List ℕ → ℕ → List ℕ
reals_at single big u n input at =
    integer_bytes (loaded (Reals single big) u n (part input at (n * real_size single))).items
