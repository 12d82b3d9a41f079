-- A layout described before it is used: the slots that it takes, and the length of its shortest record. THE EFFECT OF A
-- CALL is `described`.
use Rattle.std.specs.Prelude.{ℕ, ◌*◌, true, List, map, length, replicate, leb}
use Rattle.layout.specs.declared.Field.{Field}
use Rattle.layout.specs.declared.Refusal.TheVariants.{BadSize}
use Rattle.layout.specs.Refusals.{Result, ok, refused, ◌>>=◌, demand}
use Rattle.layout.specs.Layout.{max_layout, max_count, fields_of, slot_count}
use Rattle.record.specs.declared.Answer.{Answer}
use Rattle.record.specs.Geometry.{amount}
use Rattle.record.specs.Packing.{Filled, packed, accepted, refusal}

-- ---- the shortest record

-- The least that a field's argument may be: as many items as its count asks for, and none for `*`. Which items they are
-- does not change the length; the digit 0 (48) serves every type. `x X @` look at no items.
abbrev pub fewest : Field → Filled
fewest f = record { field = f; items = replicate (amount f.count 0) 48 }

-- the length of the record that the packing run makes of the fewest items
unfoldable pub least_length : List Field → ℕ
unfolding packed
least_length fs = length (packed (map fewest fs))

-- the most bytes that one field, and that a layout, can add to a record: far above a record's limit, and far below what
-- the answer holds
abbrev pub field_reach : ℕ
field_reach = 8 * max_count

abbrev pub layout_reach : ℕ
layout_reach = max_layout * field_reach

-- ---- the call

-- the answer: 0, slots and length; or a refusal's number and place
abbrev pub answer_of : Result Answer → Answer
answer_of (ok a) = a
answer_of (refused why place) = refusal why place

unfoldable pub described : List ℕ → Answer
unfolding fields_of slot_count least_length
described layout = answer_of do
  _ ← demand (leb (length layout) max_layout) BadSize 0
  fs ← fields_of true layout
  ok (accepted (slot_count fs) (least_length fs))
