-- A sheet that is rescued, written and rescued again (02, M-109), of curlew_sheet_rescue and curlew_sheet_write. The
-- proof is in proofs/Rescues.antt.
use Rattle.std.specs.Prelude.{ℕ, ◌≡◌, List, [], ◌∷◌, map, length, take}
use Rattle.sheet.specs.Claims.{seen}
use Rattle.rescue.specs.Claims.{RescuedAgain}
use Rattle.host.specs.Numbers.{numbers_in, numbers_bytes}
use Rattle.host.specs.Host.{reply_size, PackCall, ReadCall}
use Rattle.host_sheet.specs.Writing.{curlew_sheet_write}
use Rattle.host_sheet.specs.Rescuing.{rescue_reply_size, curlew_sheet_rescue}
use Rattle.host_claims.specs.Seen.{Lends, first_slots, slots_in, result_in}

-- What the three calls are lent: the damaged sheet and the legs that it should have; slots, area and mark for the first
-- rescue; a buffer for the sheet that is written; slots, area and mark for the second; and the replies.
pub record RescuesLent : Type 0 where
  pub sheet : List ℕ
  pub legs : ℕ
  pub slots : List ℕ
  pub area : List ℕ
  pub mark : ℕ
  pub reply : List ℕ
  pub buffer : List ℕ
  pub write_reply : List ℕ
  pub table : List ℕ
  pub values : List ℕ
  pub start : ℕ
  pub last_reply : List ℕ

abbrev pub rescued : RescuesLent → ReadCall
rescued c = curlew_sheet_rescue c.sheet c.legs c.slots c.area c.mark c.reply

-- the slots of the legs, as the first rescue left them, are written
abbrev pub written_after : RescuesLent → PackCall
written_after c =
    curlew_sheet_write (first_slots c.legs (rescued c).slots) (rescued c).area c.buffer c.write_reply

-- the sheet that was written is rescued
abbrev pub rescued_again : RescuesLent → ReadCall
rescued_again c =
    curlew_sheet_rescue (result_in (written_after c)) c.legs c.table c.values c.start c.last_reply

-- as M-109 has it: the first rescue and the writing are accepted, and there are slots and room for the second
pub record RescuesMeant (c : RescuesLent) : Type 0 where
  pub lends : Lends c.slots c.reply rescue_reply_size
  pub write-reply : length c.write_reply ≡ reply_size
  pub lends_again : Lends c.table c.last_reply rescue_reply_size
  pub again :
      RescuedAgain c.sheet c.legs (numbers_in c.slots) c.area c.mark
      c.buffer (numbers_in c.table) c.values c.start

-- every call returns 0; the last one replies 0, all legs kept, none cleared and nothing dropped, and each leg shows
-- what the first rescue left
pub record HostSavesAll (c : RescuesLent) : Type 0 where
  pub rescues : (rescued c).returned ≡ 0
  pub writes : (written_after c).returned ≡ 0
  pub rescues-again : (rescued_again c).returned ≡ 0
  pub reply : (rescued_again c).reply ≡ numbers_bytes (0 ∷ c.legs ∷ 0 ∷ 0 ∷ [])
  pub shows :
      map (seen (rescued_again c).area) (take c.legs (slots_in (rescued_again c).slots))
      ≡ map (seen (rescued c).area) (take c.legs (slots_in (rescued c).slots))

abbrev pub HostRescuedSaved : Type 0
HostRescuedSaved = (c : RescuesLent) → RescuesMeant c → HostSavesAll c
