-- The version and the length that the code chooses by numbers are those of the table's sheet.
use Rattle.std.specs.Prelude.{if◌then◌else◌}
use Prim.Native.Nat.{ℕ, ◌+◌, ◌*◌, ◌/◌, ◌≤◌}
use native.Mathlib.Omega.{arith}
use mathlib.Core.Path.{◌≡◌, refl, sym, ap, ◌∙◌}
use mathlib.Core.Bool.{Bool, true, false}
use mathlib.Core.List.{List}
use borrow.Author.Tests.{ltb-true, ltb-false, lt-ltb, le-ltb}
use lib.Dec.{eqb, ltb}
use lib.ListN.{length}
use Rattle.record.specs.Bytes.{store_at}
use Rattle.record.specs.Table.{slots_of, slot_width, max_slots}
use Rattle.record.proofs.Tables.{length-slots}
use Rattle.sheet.specs.Sheet.{version1, version2, width_of, header_size, fits_version1, entries_of, entries_end}
use Rattle.sheet.specs.inside.Steps.{sheet_for, body_for, version_of_table, table_sheet}
use Rattle.sheet.proofs.Sheets.{length-body, length-sheet}
use Rattle.sheet.proofs.Calls.{lengths}
use Rattle.sheet.proofs.Claims.{length-entries}
use Rattle.sheet_write.specs.inside.store.{BodyRoom}
use Rattle.sheet_write.specs.inside.Steps.{version_by, length_in, Checked}

same_test : (n : ℕ) → ltb (3 + n) 65539 ≡ ltb n 65536
same_test n = go (ltb n 65536) refl
  where
    go : (t : Bool) → ltb n 65536 ≡ t → ltb (3 + n) 65539 ≡ t
    go true q = lt-ltb (3 + n) 65539 (omega (arith, ltb-true n 65536 q))
    go false q = le-ltb (3 + n) 65539 (omega (arith, ltb-false n 65536 q))

module _ {slots area buffer : List ℕ} {n : ℕ} (k : Checked slots area buffer n) {v : ℕ} (e : v ≡ version_by n) where
  is-version : v ≡ version_of_table slots area
  unfolding fits_version1
  is-version = e ∙ ap version_by k.measured.1 ∙ ap (λ (t : Bool). if t then version1 else version2) (same_test (length (body_for 2 slots area)))

  pub few-slots : length slots / slot_width ≤ max_slots
  few-slots = omega (arith, (lengths (length slots) (length area) (length buffer) k.sizes).table)

  module _ {size : ℕ} (g : size ≡ length_in v n (length slots / slot_width)) where
    pub is-size : size ≡ header_size (width_of v) + length (body_for (width_of v) slots area)
    is-size = g ∙ go (eqb v version2)
      where
        go : (t : Bool) → (if t then n + 2 * (length slots / slot_width + 1) else n) ≡ header_size (if t then 4 else 2) + length (body_for (if t then 4 else 2) slots area)
        go true =
            let es = entries_of area (slots_of slots) in
            omega (arith, k.measured.1, length-body 2 es, length-body 4 es, length-entries area slots, length-slots slots)
        go false = k.measured.1

    is-sheet : sheet_for v (width_of v) slots area ≡ table_sheet slots area
    is-sheet = ap (λ (x : ℕ). sheet_for x (width_of x) slots area) is-version

    pub is-long : size ≡ length (table_sheet slots area)
    unfolding entries_end
    is-long = is-size ∙ sym (length-sheet v (width_of v) (entries_of area (slots_of slots))) ∙ ap length is-sheet

    pub has_room : size ≤ length buffer → BodyRoom (width_of v) slots area (length buffer)
    has_room h = record { fits = k.measured.0; room = rw (← is-size) h; small = (lengths (length slots) (length area) (length buffer) k.sizes).size }

    pub is-stored : {out : List ℕ} → out ≡ store_at buffer 0 (sheet_for v (width_of v) slots area) → out ≡ store_at buffer 0 (table_sheet slots area)
    is-stored q = q ∙ ap (store_at buffer 0) is-sheet
