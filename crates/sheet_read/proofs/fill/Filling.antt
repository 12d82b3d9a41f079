-- What the pass that writes keeps: the entries so far, and the table and area that hold them.
use Prim.Native.Nat.{ℕ, suc, ◌+◌, ◌*◌, ◌≤◌, ◌<◌}
use native.Mathlib.Nat.{add_assoc, add-zero, zero-add}
use native.Mathlib.Omega.{arith}
use mathlib.Core.Path.{◌≡◌, refl, sym, ap, ◌∙◌}
use mathlib.Core.Bool.{true}
use mathlib.Core.List.{List, [], ◌∷◌, ◌++◌}
use lib.ListN.{length, drop, length-append}
use Rattle.record.specs.declared.Answer.{Answer}
use Rattle.record.specs.Bytes.{store_at, join, number_at}
use Rattle.record.specs.Table.{slot_width, max_slots, max_area}
use Rattle.record.specs.Packing.{accepted}
use Rattle.record.proofs.Stores.{length-store_at, store-none}
use Rattle.sheet.specs.Entries.{Entry, entry_values, begins_entry, entry_in}
use Rattle.sheet.specs.Sheet.{header_size, entries_at, entry_numbers, entries_numbers, put_entries}
use Rattle.sheet_read.specs.inside.check.{front_of}
use Rattle.sheet_read.proofs.check.Walks.{values-more, Walked, walked_start, walked-within, walked-full, walked-there, walked-begins, walked_more}
use Rattle.sheet_read.specs.inside.fill.{Room, PutRoom, PutAs}
use Rattle.sheet.proofs.Tables.{length-slot-numbers, store-next, front-few}

-- ---- entries one after the other

pub numbers_more : (start : ℕ) (es : List Entry) (e : Entry) → entries_numbers start (es ++ (e ∷ [])) ≡ entries_numbers start es ++ entry_numbers (start + length (entry_values es)) e
unfolding entries_numbers entry_values join
numbers_more start [] e = rw add-zero
numbers_more start (d ∷ es) e =
    let place : start + length d.value + length (entry_values es) ≡ start + length (d.value ++ entry_values es) = rw length-append (add_assoc start (length d.value) (length (entry_values es))) in
    ap (λ (r : List ℕ). entry_numbers start d ++ r) (numbers_more (start + length d.value) es e ∙ ap (λ (n : ℕ). entries_numbers (start + length d.value) es ++ entry_numbers n e) place)

-- ---- the second pass

pub record Filling (w : ℕ) (sheet : List ℕ) (most : ℕ) (slots₀ area₀ : List ℕ) (mark at set place : ℕ) (slots area : List ℕ) : Type 0 where
  pub es : List Entry
  pub walk : Walked w sheet at es
  pub count : set ≡ length es
  pub few : set ≤ most
  pub next : place ≡ mark + length (entry_values es)
  pub table : slots ≡ store_at slots₀ 0 (entries_numbers mark es)
  pub values : area ≡ store_at area₀ mark (entry_values es)
  pub rows : length slots ≡ length slots₀
  pub room : length area ≡ length area₀

pub filling-start : (w : ℕ) (sheet : List ℕ) (most : ℕ) (slots area : List ℕ) (mark : ℕ) → header_size w ≤ length sheet → Filling w sheet most slots area mark (header_size w) 0 mark slots area
unfolding entry_values join entries_numbers
filling-start w sheet most slots area mark h =
    record {
      es = [];
      walk = walked_start w sheet h;
      count = refl;
      few = omega arith;
      next = sym (add-zero mark);
      table = sym (store-none slots 0);
      values = sym (store-none area mark);
      rows = refl;
      room = refl;
    }

module _ {w : ℕ} {sheet : List ℕ} {most : ℕ} {slots₀ area₀ : List ℕ} {mark : ℕ} (there : most ≤ length (entries_at w sheet)) (all : Room (front_of w most sheet) slots₀ area₀ mark)
    {at set place : ℕ} {slots area : List ℕ} (f : Filling w sheet most slots₀ area₀ mark at set place slots area) where
  pub filling-bounds : (set ≤ max_slots) × (place ≤ max_area)
  filling-bounds =
      let few = front-few f.es _ (front_of w most sheet) (walked-within f.walk most (rw (← f.count) f.few)) in
      (omega (arith, few.0, all.rows, all.table, f.count), omega (arith, few.1, all.room, all.limit, f.next))

  pub filling-done : {r : Answer} → most ≤ set → r ≡ accepted most place → record { answer = r; slots = slots; area = area } ≡ put_entries slots₀ area₀ mark (front_of w most sheet)
  unfolding put_entries
  filling-done {r} h q =
      let e : f.es ≡ front_of w most sheet = walked-full f.walk most (omega (arith, f.count, f.few)) in
      let all_set : most ≡ length (front_of w most sheet) = omega (arith, f.count, f.few, ap length e) in
      let a : r ≡ accepted (length (front_of w most sheet)) (mark + length (entry_values (front_of w most sheet))) = q ∙ ap (λ n. accepted n place) all_set ∙ rw (f.next, e) in
      let t : slots ≡ entries_numbers mark (front_of w most sheet) ++ drop (slot_width * length (front_of w most sheet)) slots₀ = f.table ∙ rw (e, length-slot-numbers, zero-add) in
      let v : area ≡ store_at area₀ mark (entry_values (front_of w most sheet)) = f.values ∙ rw e in
      rw (a, t, v)

  module _ (due : set < most) where
    pub filling-begins : begins_entry w (drop at sheet) ≡ true
    filling-begins = walked-begins f.walk (omega (arith, f.count, there))

    after : List Entry
    after = f.es ++ (entry_in w (drop at sheet) ∷ [])

    walk : Walked w sheet (at + (w + number_at w (drop at sheet) 0)) after
    unfolding after
    walk = walked_more f.walk filling-begins (number_at w (drop at sheet) 0) refl

    longer : length after ≡ length f.es + 1
    unfolding after
    longer = length-append f.es (entry_in w (drop at sheet) ∷ [])

    grown : length (entry_values after) ≡ length (entry_values f.es) + length (entry_in w (drop at sheet)).value
    unfolding after
    grown = ap length (values-more f.es (entry_in w (drop at sheet))) ∙ length-append (entry_values f.es) (entry_in w (drop at sheet)).value

    more : length after ≤ most
    more = omega (arith, longer, f.count, due)

    fits : (length after ≤ length (front_of w most sheet)) × (length (entry_values after) ≤ length (entry_values (front_of w most sheet)))
    fits = front-few after _ (front_of w most sheet) (walked-within walk most more)

    pub filling-room : PutRoom (entry_in w (drop at sheet)) slots set area place
    filling-room =
        record {
          row = omega (arith, longer, fits.0, all.rows, f.rows, f.count);
          table = omega (arith, all.table, f.rows);
          room = omega (arith, grown, fits.1, all.room, f.room, f.next);
          limit = omega (arith, all.limit, f.room);
        }

    pub filling-more : {r : ℕ} {slots' area' : List ℕ} → PutAs (entry_in w (drop at sheet)) slots set area place r slots' area'
        → Filling w sheet most slots₀ area₀ mark (at + (suc w + r)) (set + 1) (place + r) slots' area'
    unfolding after
    filling-more {r} {slots'} {area'} p =
        let e : Entry = entry_in w (drop at sheet) in
        let t = walked-there f.walk filling-begins in
        let size : w + number_at w (drop at sheet) 0 ≡ suc w + r = omega (arith, t.some, t.long, p.size) in
        let numbers : entries_numbers mark after ≡ entries_numbers mark f.es ++ entry_numbers place e = numbers_more mark f.es e ∙ rw (← f.next) in
        let len : length (entries_numbers mark after) ≡ slot_width * length after = length-slot-numbers mark after in
        let len₀ : length (entries_numbers mark f.es) ≡ slot_width * length f.es = length-slot-numbers mark f.es in
        let sum : length (entries_numbers mark after) ≡ length (entries_numbers mark f.es) + slot_width = ap length numbers ∙ length-append (entries_numbers mark f.es) (entry_numbers place e) in
        let bytes : entry_values after ≡ entry_values f.es ++ e.value = values-more f.es e in
        let table : slots' ≡ store_at slots₀ 0 (entries_numbers mark after) =
        p.table ∙ ap (λ (s : List ℕ). store_at s (slot_width * set) (entry_numbers place e)) f.table
        ∙ store-next slots₀ 0 (entries_numbers mark f.es) (entry_numbers place e) (slot_width * set)
        (omega (arith, len₀, f.count)) (omega (arith, len, sum, fits.0, all.rows))
        ∙ ap (store_at slots₀ 0) (sym numbers) in
        let values : area' ≡ store_at area₀ mark (entry_values after) =
        p.values ∙ ap (λ (s : List ℕ). store_at s place e.value) f.values
        ∙ store-next area₀ mark (entry_values f.es) e.value place f.next (omega (arith, grown, fits.1, all.room)) ∙ ap (store_at area₀ mark) (sym bytes) in
        record {
          es = after;
          walk = rw size at walk;
          count = omega (arith, longer, f.count);
          few = omega (arith, due);
          next = omega (arith, grown, p.size, f.next);
          table = table;
          values = values;
          rows = ap length table ∙ length-store_at slots₀ 0 (entries_numbers mark after) (omega (arith, fits.0, all.rows, len));
          room = ap length values ∙ length-store_at area₀ mark (entry_values after) (omega (arith, fits.1, all.room));
        }
