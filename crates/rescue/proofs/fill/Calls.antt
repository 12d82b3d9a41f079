-- Which way a rescue goes, on plain values: each way out leaves what the definition gives, and what an accepted call
-- has passed.
use Prim.Native.Nat.{ℕ, ◌+◌, ◌≤◌, ◌<◌}
use mathlib.Core.Path.{◌≡◌, refl}
use mathlib.Core.Bool.{true, false, ◌&&◌}
use mathlib.Core.List.{List}
use borrow.Author.Tests.{le-leb, lt-leb, leb-true}
use lib.Dec.{leb}
use lib.ListN.{length}
use Rattle.layout.specs.declared.Refusal.{Refusal}
use Rattle.layout.specs.declared.Refusal.TheVariants.{BadSize, BadSlots, NoRoom, BadVersion}
use Rattle.layout.specs.Refusals.{Result, ok, refused}
use Rattle.layout.proofs.Laws.{demanded, no-number-zero}
use Rattle.record.specs.Table.{slots_of, max_slots}
use Rattle.sheet.specs.Entries.{Entry, entry_values}
use Rattle.sheet.specs.Sheet.{version_of, version_known, width_in}
use Rattle.sheet.specs.inside.Steps.{sheet_lent_fits}
use Rattle.rescue.specs.Rescue.{kept_in, rescues, rescue_refused, Outcome, keeping, rescue_effect, rescue}

module _ (sheet : List ℕ) (legs : ℕ) (slots area : List ℕ) (mark : ℕ) where
  -- a refusal leaves table and area
  abbrev pub refuses : Refusal → Outcome
  refuses why = record { answer = rescue_refused why 0; slots = slots; area = area }

  pub rescue-sizes : sheet_lent_fits (length slots) (length area) (length sheet) mark && leb legs max_slots ≡ false → refuses BadSize ≡ rescue sheet legs slots area mark
  unfolding rescue rescues
  rescue-sizes h = rw h

  module _ (sizes : sheet_lent_fits (length slots) (length area) (length sheet) mark && leb legs max_slots ≡ true) where
    pub rescue-version : version_known (version_of sheet) ≡ false → refuses BadVersion ≡ rescue sheet legs slots area mark
    unfolding rescue rescues
    rescue-version h = rw (sizes, h)

    module _ (versions : version_known (version_of sheet) ≡ true) where
      pub rescue-slots : length (slots_of slots) < legs → refuses BadSlots ≡ rescue sheet legs slots area mark
      unfolding rescue rescues
      rescue-slots h = rw (sizes, versions, lt-leb legs (length (slots_of slots)) h)

      module _ (rows : legs ≤ length (slots_of slots)) where
        pub rescue-room : length area < mark + length (entry_values (kept_in (width_in sheet) legs sheet)) → refuses NoRoom ≡ rescue sheet legs slots area mark
        unfolding rescue rescues
        rescue-room h = rw (sizes, versions, le-leb legs (length (slots_of slots)) rows, lt-leb _ _ h)

        pub rescue-put : mark + length (entry_values (kept_in (width_in sheet) legs sheet)) ≤ length area
            → keeping sheet legs slots area mark (kept_in (width_in sheet) legs sheet) ≡ rescue sheet legs slots area mark
        unfolding rescue rescues
        rescue-put h = rw (sizes, versions, le-leb legs (length (slots_of slots)) rows, le-leb _ _ h)

rescue-ok : (sheet : List ℕ) (legs : ℕ) (slots area : List ℕ) (mark : ℕ) (o : Result (List Entry)) → (rescue_effect sheet legs slots area mark o).answer.number ≡ 0 → (es : List Entry) × (o ≡ ok es)
rescue-ok sheet legs slots area mark (ok es) h = (es, refl)
rescue-ok sheet legs slots area mark (refused why place) h = no-number-zero why h

-- what an accepted call has passed
pub record RescuedIt (sheet : List ℕ) (legs : ℕ) (slots area : List ℕ) (mark : ℕ) : Type 0 where
  pub sizes : sheet_lent_fits (length slots) (length area) (length sheet) mark && leb legs max_slots ≡ true
  pub versions : version_known (version_of sheet) ≡ true
  pub rows : legs ≤ length (slots_of slots)
  pub room : mark + length (entry_values (kept_in (width_in sheet) legs sheet)) ≤ length area

pub rescued-it : (sheet : List ℕ) (legs : ℕ) (slots area : List ℕ) (mark : ℕ) → (rescue sheet legs slots area mark).answer.number ≡ 0 → RescuedIt sheet legs slots area mark
unfolding rescue rescues
rescued-it sheet legs slots area mark h =
    let (es, e) = rescue-ok sheet legs slots area mark (rescues sheet legs slots area mark) h in
    let (sizes, e₁) = demanded _ BadSize 0 _ es e in
    let (versions, e₂) = demanded _ BadVersion 0 _ es e₁ in
    let (rows, e₃) = demanded _ BadSlots 0 _ es e₂ in
    let (room, e₄) = demanded _ NoRoom 0 _ es e₃ in
    record { sizes = sizes; versions = versions; rows = leb-true _ _ rows; room = leb-true _ _ room }
