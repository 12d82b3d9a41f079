-- Which way the code goes, by the numbers that the first pass answers: each way out leaves what the definition gives.
use Prim.Native.Nat.{ℕ, ◌+◌, ◌-◌, ◌*◌, ◌≤◌, ◌<◌}
use native.Mathlib.Omega.{arith}
use mathlib.Core.Path.{◌≡◌, sym, ap, ◌∙◌, subst}
use mathlib.Core.List.{List, []}
use borrow.Author.Tests.{le-leb, lt-leb, leb-true}
use lib.Dec.{leb}
use lib.ListN.{length, take, length-take, drop_of_length-le}
use lib.Seq.{take-nil}
use Rattle.layout.specs.declared.Refusal.TheVariants.{NoRoom}
use Rattle.record.specs.declared.Answer.{Answer}
use Rattle.record.specs.Bytes.{store_at, join}
use Rattle.record.specs.Table.{slot_width, max_slots}
use Rattle.record.specs.Reading.{Read}
use Rattle.record.proofs.Bytes.{and-true}
use Rattle.record.proofs.Stores.{store-none}
use Rattle.record.proofs.Tables.{length-slots}
use Rattle.sheet_read.specs.declared.check.SheetExtent.{SheetExtent}
use Rattle.sheet.specs.Entries.{Entry, entry_values, entries_in}
use Rattle.sheet.specs.declared.lengths.Version.{Version}
use Rattle.sheet.specs.Sheet.{header_size, width_of, version_of, width_in, entries_at, entries_numbers, put_entries}
use Rattle.sheet.specs.inside.Steps.{byte_of, width, sheet_lent_fits}
use Rattle.sheet_read.specs.inside.check.{front_of, ExtentOf}
use Rattle.sheet_read.proofs.check.Walks.{found-there, found_front}
use Rattle.sheet_read.specs.inside.fill.{Room}
use Rattle.sheet.proofs.Calls.{Lent, lent}
use Rattle.rescue.specs.declared.fill.Rescued.{Rescued}
use Rattle.rescue.specs.Rescue.{kept_in, dropped_of, filled_up, saved, Outcome, keeping, rescue}
use Rattle.rescue.specs.inside.Steps.{RescueReady, cleared_numbers, Clearable}
use Rattle.rescue.proofs.fill.Calls.{refuses, rescue-room, rescue-put}
use Rattle.rescue.proofs.fill.Filled.{filled-area}
use Rattle.rescue.proofs.fill.Clearing.{put-length, cleared-rest}

same_outcome : {r r' : Rescued} {slots slots' area area' : List ℕ} → r ≡ r' → slots ≡ slots' → area ≡ area'
    → ◌≡◌ {A = Outcome} (record { answer = r; slots = slots; area = area }) (record { answer = r'; slots = slots'; area = area' })
same_outcome p q t = rw (p, q, t)

module _ {sheet : List ℕ} {legs : ℕ} {slots area : List ℕ} {mark : ℕ} (o : RescueReady sheet legs slots area mark) where
  pub bounds : Lent (length slots) (length area) (length sheet) mark
  bounds = lent (length slots) (length area) (length sheet) mark (and-true (sheet_lent_fits (length slots) (length area) (length sheet) mark) (leb legs max_slots) o.sizes).0

  pub legs-few : legs ≤ max_slots
  legs-few = leb-true legs max_slots (and-true (sheet_lent_fits (length slots) (length area) (length sheet) mark) (leb legs max_slots) o.sizes).1

  there : slot_width * legs ≤ length slots
  there = omega (arith, o.rows, length-slots slots)

  -- ---- no whole header

  pub all-clearable : Clearable slots 0 legs
  all-clearable = record { there = omega (arith, there); table = bounds.lengths.table }

  module _ (short : length sheet < header_size (width_in sheet)) where
    none_kept : kept_in (width_in sheet) legs sheet ≡ []
    unfolding kept_in entries_in
    none_kept =
        let past : length sheet ≤ header_size (width_in sheet) = omega arith in
        ap (λ (bs : List ℕ). take legs (entries_in (width_in sheet) bs)) (drop_of_length-le sheet past) ∙ take-nil legs

    all-dropped : dropped_of (width_in sheet) sheet [] ≡ length sheet
    unfolding dropped_of
    all-dropped = rw (lt-leb (header_size (width_in sheet)) (length sheet) short)

    pub nothing-done : {r : Rescued} {slots' : List ℕ} → slots' ≡ store_at slots (slot_width * 0) (cleared_numbers legs) → r ≡ saved 0 legs (length sheet)
        → record { answer = r; slots = slots'; area = area } ≡ rescue sheet legs slots area mark
    unfolding put_entries entries_numbers entry_values join
    nothing-done {r} {slots'} q a =
        let room : mark + length (entry_values (kept_in (width_in sheet) legs sheet)) ≤ length area = rw none_kept (omega (arith, bounds.start)) in
        let done = rescue-put sheet legs slots area mark o.sizes o.versions o.rows room in
        let none : legs - 0 ≡ legs = omega arith in
        let table : slots' ≡ (put_entries slots area mark (filled_up legs [])).slots =
        q ∙ ap (λ (n : ℕ). store_at slots (slot_width * 0) (cleared_numbers n)) (sym none) ∙ cleared-rest slots area mark legs [] (omega arith) there in
        let values : area ≡ (put_entries slots area mark (filled_up legs [])).area = sym (filled-area legs [] slots area mark ∙ store-none area mark) in
        let answer : r ≡ saved 0 (legs - 0) (dropped_of (width_in sheet) sheet []) = a ∙ rw (all-dropped, none) in
        same_outcome answer table values ∙ ap (keeping sheet legs slots area mark) (sym none_kept) ∙ done

  -- ---- a header; v is the version that the code has

  module _ (v : Version) (same-version : byte_of v ≡ version_of sheet) {x : SheetExtent} (front : ExtentOf (width v) (front_of (width v) legs sheet) sheet x) where
    same : width v ≡ width_in sheet
    same = ap width_of same-version

    m : ExtentOf (width_in sheet) (front_of (width_in sheet) legs sheet) sheet x
    m = subst (λ (n : ℕ). ExtentOf n (front_of n legs sheet) sheet x) same front

    -- the second pass takes as many as the first has found
    found : front_of (width v) x.entries sheet ≡ front_of (width_in sheet) legs sheet
    found = found_front legs front ∙ ap (λ (n : ℕ). front_of n legs sheet) same

    pub all_found : x.entries ≤ length (entries_at (width v) sheet)
    all_found = found-there legs front

    pub kept-few : x.entries ≤ legs
    kept-few = omega (arith, m.entries, length-take legs (entries_at (width_in sheet) sheet))

    pub no_room : length area - mark < x.values → refuses sheet legs slots area mark NoRoom ≡ rescue sheet legs slots area mark
    unfolding kept_in
    no_room h = rescue-room sheet legs slots area mark o.sizes o.versions o.rows (omega (arith, m.values, bounds.start))

    module _ (fits : x.values ≤ length area - mark) where
      pub has_room : Room (front_of (width v) x.entries sheet) slots area mark
      has_room =
          subst (λ (es : List Entry). Room es slots area mark) (sym found)
          (record {
            rows = omega (arith, m.entries, kept-few, there);
            table = bounds.lengths.table;
            room = omega (arith, m.values, bounds.start);
            limit = bounds.lengths.limit;
          })

      module _ {a : Answer} {slots₁ area₁ : List ℕ} (g : record { answer = a; slots = slots₁; area = area₁ } ≡ put_entries slots area mark (front_of (width v) x.entries sheet)) where
        f : record { answer = a; slots = slots₁; area = area₁ } ≡ put_entries slots area mark (front_of (width_in sheet) legs sheet)
        f = g ∙ ap (put_entries slots area mark) found

        filled : slots₁ ≡ (put_entries slots area mark (front_of (width_in sheet) legs sheet)).slots
        filled = ap (λ (r : Read). r.slots) f

        pub rest-clearable : Clearable slots₁ x.entries (legs - x.entries)
        rest-clearable =
            let long : length slots₁ ≡ length slots = ap length filled ∙ put-length slots area mark legs (front_of (width_in sheet) legs sheet) (rw (← m.entries) kept-few) there in
            record { there = omega (arith, kept-few, there); table = omega (arith, bounds.lengths.table) }

        pub all_done : {r : Rescued} {slots₂ : List ℕ} → header_size (width v) ≤ length sheet → slots₂ ≡ store_at slots₁ (slot_width * x.entries) (cleared_numbers (legs - x.entries))
            → r ≡ saved x.entries (legs - x.entries) (length sheet - x.end) → record { answer = r; slots = slots₂; area = area₁ } ≡ rescue sheet legs slots area mark
        unfolding kept_in dropped_of
        all_done {r} {slots₂} header q a =
            let es : List Entry = front_of (width_in sheet) legs sheet in
            let here : header_size (width_in sheet) ≤ length sheet = rw (← same) header in
            let table : slots₂ ≡ (put_entries slots area mark (filled_up legs es)).slots =
            q ∙ rw (filled, m.entries) (cleared-rest slots area mark legs es (rw (← m.entries) kept-few) there) in
            let values : area₁ ≡ (put_entries slots area mark (filled_up legs es)).area = ap (λ (r : Read). r.area) f ∙ sym (filled-area legs es slots area mark) in
            let dropped : length sheet - x.end ≡ dropped_of (width_in sheet) sheet es = rw (le-leb (header_size (width_in sheet)) (length sheet) here, m.end) in
            let answer : r ≡ saved (length es) (legs - length es) (dropped_of (width_in sheet) sheet es) = a ∙ rw (dropped, m.entries) in
            same_outcome answer table values ∙ rescue-put sheet legs slots area mark o.sizes o.versions o.rows (omega (arith, m.values, fits, bounds.start))
