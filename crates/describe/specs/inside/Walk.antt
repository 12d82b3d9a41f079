-- What the functions inside the call rely on and compute.
use Rattle.std.specs.declared.option.Option.TheVariants.{Some, None}
use Rattle.std.specs.Prelude.{ℕ, ◌*◌, ◌≤◌, ◌≡◌, false, List, length}
use Rattle.layout.specs.declared.Role.{Role}
use Rattle.layout.specs.declared.Count.{Count}
use Rattle.layout.specs.Refusals.{ok}
use Rattle.layout.specs.Layout.{max_layout, max_count, fields_of}
use Rattle.layout.specs.inside.Parsing.{FitRole, FitCount, decoded}
use Rattle.record.specs.Bytes.{store_at}
use Rattle.describe.specs.Placed.{Placed, placed_fields}
use Rattle.describe.specs.declared.fields.Track.{Track}
use Rattle.describe.specs.Rows.{Extent, rows_of, row_bytes}

-- a number that is fixed is at most `most`
abbrev pub AtMost : ℕ → Extent → Type 0
AtMost most (Some n) = n ≤ most
AtMost most None = Unit {0}

-- the most bytes that one field can add to a position, and so the fields of a layout
-- (crates/describe/specs/Description.antt)
abbrev pub field_reach : ℕ
field_reach = 8 * max_count

abbrev pub layout_reach : ℕ
layout_reach = max_layout * field_reach

-- a field of the role k with the count n can be taken where packing has the track t: nothing is near to wrapping
pub record Safe (k : Role) (n : Count) (t : Track) : Type 0 where
  pub role : FitRole k
  pub count : FitCount n
  pub near : AtMost layout_reach t.at

-- the codes hold n fields, which are those of the text, as reading reads it
pub record Holds (text : List ℕ) (n : ℕ) (ws : List ℕ) : Type 0 where
  pub few : n ≤ length ws
  pub room : length ws ≤ max_layout
  pub short : length text ≤ max_layout
  pub fields : fields_of false text ≡ ok (decoded n ws)

-- the rows of the text's fields stand at the front of a run
abbrev pub Written : List ℕ → List ℕ → List ℕ → Type 0
Written text old new = (ps : List Placed) → placed_fields false text ≡ ok ps → new ≡ store_at old 0 (row_bytes (rows_of ps))
