-- Packing, sheets and the mean do not look at the position in a slot (02, M-110): two tables that differ in positions
-- alone give the same call. The proofs are in proofs/Positions.antt.
use Rattle.std.specs.Prelude.{ℕ, ◌%◌, ◌≡◌, List, length, get_or}
use Rattle.record.specs.Table.{slot_width}
use Rattle.record.specs.Packing.{pack}
use Rattle.sheet.specs.Sheet.{write_sheet}
use Rattle.mean.specs.Mean.{mean}

-- the place of the position among the numbers of a slot
abbrev pub position_place : ℕ
position_place = 3

-- two tables have as many numbers, and all but the positions are the same
pub record ButPositions (slots slots' : List ℕ) : Type 0 where
  pub as_many : length slots ≡ length slots'
  pub others : (i : ℕ) → (i % slot_width ≡ position_place → ⊥) → get_or slots i 0 ≡ get_or slots' i 0

-- every packing, accepted or refused, is the same for two tables that differ in positions alone
abbrev pub PackIgnoresPositions : Type 0
PackIgnoresPositions =
    (layout slots slots' area output : List ℕ) → ButPositions slots slots'
    → pack layout slots area output ≡ pack layout slots' area output

-- every sheet that is written is the same for two tables that differ in positions alone
abbrev pub WriteIgnoresPositions : Type 0
WriteIgnoresPositions =
    (slots slots' area buffer : List ℕ) → ButPositions slots slots'
    → write_sheet slots area buffer ≡ write_sheet slots' area buffer

-- every mean is the same for two tables that differ in positions alone
abbrev pub MeanIgnoresPositions : Type 0
MeanIgnoresPositions = (slots slots' area : List ℕ) → ButPositions slots slots' → mean slots area ≡ mean slots' area
