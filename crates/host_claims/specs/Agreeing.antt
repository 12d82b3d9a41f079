-- The slots that a call leaves, for every call that sets slots (document 01, Slot tables): taken as numbers they are
-- those that the call on numbers leaves, and they may be lent to the next call. The proofs are in proofs/Agreeing.antt.
use Rattle.std.specs.Prelude.{ℕ, ◌≡◌, List, length}
use Rattle.record.specs.Reading.{read}
use Rattle.sheet.specs.Sheet.{read_sheet}
use Rattle.rescue.specs.Rescue.{rescue}
use Rattle.host.specs.Numbers.{numbers_in}
use Rattle.host.specs.Host.{reply_size, long_reply_size}
use Rattle.host_record.specs.Reading.{curlew_read}
use Rattle.host_sheet.specs.Reading.{curlew_sheet_read}
use Rattle.host_sheet.specs.Rescuing.{rescue_reply_size, curlew_sheet_rescue}
use Rattle.host_claims.specs.Seen.{Slots, Lends}

-- the slots that a call left hold `numbers`, are slots again, and are as many as those that it was lent
pub record Agrees (lent left numbers : List ℕ) : Type 0 where
  pub same : numbers_in left ≡ numbers
  pub slots : Slots left
  pub as_many : length left ≡ length lent

-- every reading, accepted or refused, leaves the slots that the call on numbers leaves
abbrev pub ReadAgrees : Type 0
ReadAgrees =
    (layout bytes slots area : List ℕ) (mark : ℕ) (reply : List ℕ) → Lends slots reply long_reply_size
    → Agrees slots (curlew_read layout bytes slots area mark reply).slots
    (read layout bytes (numbers_in slots) area mark).slots

-- every reading of a sheet leaves the slots that the call on numbers leaves
abbrev pub SheetReadAgrees : Type 0
SheetReadAgrees =
    (sheet slots area : List ℕ) (mark : ℕ) (reply : List ℕ) → Lends slots reply reply_size
    → Agrees slots (curlew_sheet_read sheet slots area mark reply).slots
    (read_sheet sheet (numbers_in slots) area mark).slots

-- every rescue of a sheet leaves the slots that the call on numbers leaves
abbrev pub RescueAgrees : Type 0
RescueAgrees =
    (sheet : List ℕ) (legs : ℕ) (slots area : List ℕ) (mark : ℕ) (reply : List ℕ) → Lends slots reply rescue_reply_size
    → Agrees slots (curlew_sheet_rescue sheet legs slots area mark reply).slots
    (rescue sheet legs (numbers_in slots) area mark).slots
