-- Reading loses nothing (02, M-107), of curlew_read and curlew_pack. The proof is in proofs/GivenBack.antt.
use Rattle.std.specs.Prelude.{◌≡◌, ℕ, List, map, length}
use Rattle.record.specs.Table.{Value, shown}
use Rattle.lossless.specs.Claim.{Layout, Archived}
use Rattle.host.specs.Numbers.{numbers_in}
use Rattle.host.specs.Host.{reply_size, long_reply_size, PackCall, ReadCall}
use Rattle.host_record.specs.Packing.{curlew_pack}
use Rattle.host_record.specs.Reading.{curlew_read}
use Rattle.host_claims.specs.Seen.{Lends, slots_in, filled_with}

-- a record of the layout with all that M-107 asks, over the numbers in a run of slot bytes; and the two replies
pub record HostArchived (l : Layout) : Type 0 where
  pub archived : Archived l
  pub slots : List ℕ
  pub read_reply : List ℕ
  pub pack_reply : List ℕ
  pub lends : Lends slots read_reply long_reply_size
  pub are : numbers_in slots ≡ archived.slots
  pub pack-reply : length pack_reply ≡ reply_size

-- the record is read, and the slots and the area that this leaves are packed by the same layout
abbrev pub host_reading_of : (l : Layout) → HostArchived l → ReadCall
host_reading_of l r =
    curlew_read l.text r.archived.bytes r.slots r.archived.area r.archived.mark r.read_reply

abbrev pub host_packing_of : (l : Layout) → HostArchived l → PackCall
host_packing_of l r =
    curlew_pack l.text (host_reading_of l r).slots (host_reading_of l r).area r.archived.output r.pack_reply

-- what the slots show, kind and items
abbrev pub host_shown_by : (l : Layout) → HostArchived l → List Value
host_shown_by l r = map (shown (host_reading_of l r).area) (slots_in (host_reading_of l r).slots)

pub record HostLosesNothing (l : Layout) : Type 0 where
  pub accepted : (r : HostArchived l) → (host_reading_of l r).returned ≡ 0
  -- the packing gives the record back, byte for byte
  pub gives_back : (r : HostArchived l) → host_packing_of l r ≡ filled_with r.archived.output r.archived.bytes
  -- two records of the layout that show the same values are the same bytes
  pub tells-apart : (r s : HostArchived l) → host_shown_by l r ≡ host_shown_by l s → r.archived.bytes ≡ s.archived.bytes

-- READING LOSES NOTHING for a C program, by any layout that M-107 names
abbrev pub HostLossless : Type 0
HostLossless = (l : Layout) → HostLosesNothing l
