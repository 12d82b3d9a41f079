-- Each call is the call on numbers, of which the claim is proved; the slots of the legs are the first that the rescue
-- left, and the sheet is found by the length in the writer's reply.
use Prim.Native.Nat.{ℕ, ◌*◌}
use mathlib.Core.Path.{◌≡◌, ap, ap₂, ◌∙◌}
use mathlib.Core.List.{List}
use lib.ListN.{take}
use Rattle.record.specs.Table.{slot_width}
use Rattle.record.proofs.Tables.{slots-take}
use Rattle.sheet.specs.Sheet.{write_sheet}
use Rattle.sheet.specs.Claims.{sheet_of}
use Rattle.rescue.specs.declared.fill.Rescued.{Rescued}
use Rattle.rescue.specs.Rescue.{Outcome, rescue}
use Rattle.rescue.specs.Claims.{slots_set_by, SavesAll as NumbersSaved}
use Rattle.rescue.proofs.Claims.{rescued-saved}
use Rattle.host.specs.Numbers.{numbers_in}
use Rattle.host.specs.Host.{PackCall, ReadCall, pack_call}
use Rattle.host_sheet.specs.Rescuing.{rescue_reply, rescue_call}
use Rattle.host_claims.specs.Seen.{first_slots, result_in}
use Rattle.host_claims.specs.Agreeing.{Agrees}
use Rattle.host_claims.specs.Rescues.{RescuesLent, rescued, written_after, rescued_again, RescuesMeant, HostSavesAll, HostRescuedSaved}
use Rattle.host_claims.proofs.Laws.{write-served, rescue-served, slots-first, numbers-first}
use Rattle.host_claims.proofs.Agreeing.{rescue-agrees}
use Rattle.host_claims.proofs.Sheets.{sheet-found}

module _ (c : RescuesLent) (m : RescuesMeant c) where
  -- ---- the first rescue

  o : Outcome
  o = rescue c.sheet c.legs (numbers_in c.slots) c.area c.mark

  as-rescued : rescued c ≡ rescue_call c.slots o
  unfolding o
  as-rescued = rescue-served c.slots c.reply c.sheet c.legs c.area c.mark m.lends

  agrees : Agrees c.slots (rescued c).slots o.slots
  unfolding o
  agrees = rescue-agrees c.sheet c.legs c.slots c.area c.mark c.reply m.lends

  area_same : (rescued c).area ≡ o.area
  unfolding rescue_call
  area_same = ap (λ (r : ReadCall). r.area) as-rescued

  set : numbers_in (first_slots c.legs (rescued c).slots) ≡ slots_set_by c.legs o
  set = numbers-first c.legs (rescued c).slots ∙ ap (take (slot_width * c.legs)) agrees.same

  -- ---- the sheet that is written

  as_written : written_after c ≡ pack_call (write_sheet (slots_set_by c.legs o) o.area c.buffer)
  as_written =
      write-served (first_slots c.legs (rescued c).slots) c.write_reply (rescued c).area c.buffer
      (record { are-slots = slots-first c.legs (rescued c).slots agrees.slots; reply-size = m.write-reply })
      ∙ ap₂ (λ (ns area : List ℕ). pack_call (write_sheet ns area c.buffer)) set area_same

  found : result_in (written_after c) ≡ sheet_of (write_sheet (slots_set_by c.legs o) o.area c.buffer)
  unfolding o
  found = ap result_in as_written ∙ sheet-found (slots_set_by c.legs o) o.area c.buffer m.again.stored.writing

  -- ---- the second rescue

  p : Outcome
  p =
      rescue (sheet_of (write_sheet (slots_set_by c.legs o) o.area c.buffer)) c.legs (numbers_in c.table) c.values
      c.start

  as-again : rescued_again c ≡ rescue_call c.table p
  unfolding p
  as-again =
      rescue-served c.table c.last_reply (result_in (written_after c)) c.legs c.values c.start m.lends_again
      ∙ ap
      (λ (bs : List ℕ). rescue_call c.table (rescue bs c.legs (numbers_in c.table) c.values c.start)) found

  again-same : numbers_in (rescued_again c).slots ≡ p.slots
  unfolding p
  again-same =
      (rescue-agrees (result_in (written_after c)) c.legs c.table c.values c.start c.last_reply
      m.lends_again).same
      ∙ ap (λ (bs : List ℕ). (rescue bs c.legs (numbers_in c.table) c.values c.start).slots) found

  saves : NumbersSaved c.legs (slots_set_by c.legs o) o.area p
  unfolding o p
  saves =
      rescued-saved c.sheet c.legs (numbers_in c.slots) c.area c.mark c.buffer (numbers_in c.table)
      c.values c.start m.again

  saves-all : HostSavesAll c
  unfolding o rescue_call rescue_reply pack_call
  saves-all = record {
    rescues = ap (λ (r : ReadCall). r.returned) as-rescued ∙ m.again.rescuing;
    writes = ap (λ (w : PackCall). w.returned) as_written ∙ m.again.stored.writing;
    rescues-again = ap (λ (r : ReadCall). r.returned) as-again ∙ ap (λ (a : Rescued). a.number) saves.answer;
    reply = ap (λ (r : ReadCall). r.reply) as-again ∙ ap rescue_reply saves.answer;
    shows =
        let again : (rescued_again c).area ≡ p.area = ap (λ (r : ReadCall). r.area) as-again in
        rw (again-same, again, agrees.same, area_same, ← slots-take c.legs o.slots) saves.shows;
  }

pub host-rescued-saved : HostRescuedSaved
host-rescued-saved = saves-all
