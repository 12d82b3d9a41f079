-- One integer, as it is read.
use Rattle.std.specs.Prelude.{ℕ, ◌%◌, ◌≤◌, ◌<◌, ◌≡◌, Bool, true, ◌||◌, List, ltb, if◌then◌else◌}
use Rattle.record.specs.Bytes.{digits, number, ordered}
use Rattle.record.specs.Reading.{widened}

-- the bytes that an integer has in a field (01, Layout text): 1, 2, 4 or 8; and a width below eight
abbrev pub Width : ℕ → Type 0
Width w = (0 < w) × (w ≤ 8) × (8 % w ≡ 0)

abbrev pub Narrow : ℕ → Type 0
Narrow w = (0 < w) × (w < 8) × (8 % w ≡ 0)

-- the eight bytes in the area of the integer that the w bytes of a field make
unfoldable pub item_bytes : ℕ → Bool → Bool → List ℕ → List ℕ
item_bytes w big unsigned bs = ordered true (digits 256 8 (widened w unsigned (number 256 (ordered big bs))))

-- the byte that stands before the bytes of a field whose highest byte is `top`
unfoldable pub filler_of : Bool → ℕ → ℕ
filler_of unsigned top = if unsigned || ltb top 128 then 0 else 255
