-- Which way a reading goes, by the version, the width and the numbers that the first pass answers: each way out leaves
-- what the definition gives.
use Prim.Native.Nat.{ℕ, suc, ◌+◌, ◌-◌, ◌*◌, ◌/◌, ◌≤◌, ◌<◌}
use native.Mathlib.Omega.{arith}
use mathlib.Core.Path.{◌≡◌, sym, ap, ◌∙◌, subst}
use mathlib.Core.Bool.{Bool, true, false}
use mathlib.Core.List.{List}
use borrow.Author.Tests.{ne_eqb}
use lib.ListN.{length, drop, length-drop}
use lib.Seq.{take_all}
use Rattle.layout.specs.declared.Refusal.TheVariants.{BadSheet, BadSlots, NoRoom}
use Rattle.record.specs.Table.{slots_of, slot_width}
use Rattle.record.specs.Reading.{Read}
use Rattle.record.proofs.Tables.{length-slots}
use Rattle.sheet.specs.Entries.{Entry, body_bytes, entry_values}
use Rattle.sheet.specs.Sheet.{width_of, header_size, fits_version1, max_sheet, version_of, width_in, entries_at, entries_end, version_needed, put_entries, read_sheet}
use Rattle.sheet.specs.declared.lengths.Version.{Version}
use Rattle.sheet.specs.inside.Steps.{byte_of, width}
use Rattle.sheet.proofs.Entries.{entries-few}
use Rattle.sheet.proofs.Sheets.{length-body}
use Rattle.sheet.proofs.Calls.{refuses, Lent, lent, header-there, read-wrong, read-needless, read-slots, read-room, read-put}
use Rattle.sheet_read.specs.declared.check.SheetExtent.{SheetExtent}
use Rattle.sheet_read.specs.inside.check.{needed_by, front_of, ExtentOf}
use Rattle.sheet_read.proofs.check.Walks.{found-there, found_front}
use Rattle.sheet_read.specs.inside.fill.{Room}
use Rattle.sheet_read.specs.inside.Steps.{OpenedAs}

-- ---- the entries

module _ {v : Version} {sheet slots area : List ℕ} {mark : ℕ} (o : OpenedAs v sheet slots area mark) where
  -- the version's width is that of the sheet's lengths
  same-width : width v ≡ width_in sheet
  same-width = ap width_of o.version

  pub bounds : Lent (length slots) (length area) (length sheet) mark
  bounds = lent (length slots) (length area) (length sheet) mark o.opened.sizes

  pub has-header : header_size (width v) ≤ length sheet
  has-header = rw same-width (header-there (width_in sheet) sheet o.opened.header)

  -- a sheet has no more entries than bytes
  every : front_of (width v) (length sheet) sheet ≡ entries_at (width_in sheet) sheet
  every =
      take_all (length sheet) (entries_at (width v) sheet) (omega (arith, entries-few (width v) (drop (suc (width v)) sheet), length-drop (suc (width v)) sheet))
      ∙ ap (λ (n : ℕ). entries_at n sheet) same-width

  module _ {x : SheetExtent} (front : ExtentOf (width v) (front_of (width v) (length sheet) sheet) sheet x) where
    m : ExtentOf (width_in sheet) (entries_at (width_in sheet) sheet) sheet x
    m = subst (λ (n : ℕ). ExtentOf n (entries_at (width_in sheet) sheet) sheet x) same-width (subst (λ (es : List Entry). ExtentOf (width v) es sheet x) every front)

    -- the second pass takes as many as the first has found
    found : front_of (width v) x.entries sheet ≡ front_of (width v) (length sheet) sheet
    found = found_front (length sheet) front

    pub all_found : x.entries ≤ length (entries_at (width v) sheet)
    all_found = found-there (length sheet) front

    pub few_bytes : x.entries + x.values ≤ max_sheet
    few_bytes = omega (arith, m.small, m.within, bounds.lengths.size)

    pub end-wrong : (x.end ≡ length sheet → ⊥) → refuses sheet slots area mark BadSheet x.end ≡ read_sheet sheet slots area mark
    end-wrong h = rw m.end (read-wrong sheet slots area mark o.opened (ne_eqb _ _ (λ q. h (m.end ∙ q))))

    module _ (whole : x.end ≡ length sheet) {t : Bool} (p : t ≡ needed_by (byte_of v) x.entries x.values) where
      all_there : entries_end (width_in sheet) (entries_at (width_in sheet) sheet) ≡ length sheet
      all_there = sym m.end ∙ whole

      -- the code's test is the fitting rule
      needed-as : {b : Bool} → t ≡ b → version_needed (version_of sheet) (entries_at (width_in sheet) sheet) ≡ b
      unfolding fits_version1
      needed-as {b} r =
          let size : x.entries * 3 + x.values ≡ length (body_bytes 2 (entries_at (width_in sheet) sheet)) = omega (arith, m.entries, m.values, length-body 2 (entries_at (width_in sheet) sheet)) in
          let same : needed_by (byte_of v) x.entries x.values ≡ version_needed (version_of sheet) (entries_at (width_in sheet) sheet) = rw (size, o.version) in
          sym same ∙ sym p ∙ r

      pub needless : t ≡ false → refuses sheet slots area mark BadSheet 0 ≡ read_sheet sheet slots area mark
      needless r = read-needless sheet slots area mark o.opened all_there (needed-as r)

      module _ (r : t ≡ true) where
        pub few-slots : length slots / slot_width < x.entries → refuses sheet slots area mark BadSlots 0 ≡ read_sheet sheet slots area mark
        few-slots h = read-slots sheet slots area mark o.opened all_there (needed-as r) (omega (arith, m.entries, length-slots slots))

        module _ (enough : x.entries ≤ length slots / slot_width) where
          rows : length (entries_at (width_in sheet) sheet) ≤ length (slots_of slots)
          rows = omega (arith, m.entries, length-slots slots)

          pub no_room : length area - mark < x.values → refuses sheet slots area mark NoRoom 0 ≡ read_sheet sheet slots area mark
          no_room h = read-room sheet slots area mark o.opened all_there (needed-as r) rows (omega (arith, m.values, bounds.start))

          module _ (fits : x.values ≤ length area - mark) where
            room : mark + length (entry_values (entries_at (width_in sheet) sheet)) ≤ length area
            room = omega (arith, m.values, bounds.start)

            pub has_room : Room (front_of (width v) x.entries sheet) slots area mark
            has_room = rw (found, every) (record { rows = omega (arith, rows, length-slots slots); table = bounds.lengths.table; room = room; limit = bounds.lengths.limit })

            pub all-put : {r : Read} → r ≡ put_entries slots area mark (front_of (width v) x.entries sheet) → r ≡ read_sheet sheet slots area mark
            all-put e = e ∙ ap (put_entries slots area mark) (found ∙ every) ∙ read-put sheet slots area mark o.opened all_there (needed-as r) rows room
