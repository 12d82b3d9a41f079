-- What the loop that clears slots keeps, and what it leaves after the entries that were put in.
use Prim.Native.Nat.{ℕ, zero, suc, ◌+◌, ◌-◌, ◌*◌, ◌≤◌, ◌<◌}
use native.Mathlib.Nat.{add-zero, zero-add}
use native.Mathlib.Omega.{arith}
use mathlib.Core.Path.{◌≡◌, refl, sym, ap, ◌∙◌}
use mathlib.Core.List.{List, ◌++◌}
use lib.ListN.{length, drop, replicate, length-append, length-drop, length-replicate}
use Rattle.record.specs.Bytes.{store_at}
use Rattle.record.specs.Table.{slot_width}
use Rattle.record.proofs.Stores.{runs, runs-first, Wrote, wrote_none, wrote-more, wrote-done}
use Rattle.sheet.specs.Entries.{Entry, entry_values}
use Rattle.sheet.specs.Sheet.{entry_numbers, entries_numbers, put_entries}
use Rattle.sheet.proofs.Tables.{length-slot-numbers, store-next}
use Rattle.rescue.specs.Rescue.{cleared_entry, filled_up}
use Rattle.rescue.specs.inside.Steps.{cleared_numbers, Clearable}
use Rattle.rescue.proofs.fill.Filled.{numbers-append}

-- a cleared slot has the same numbers wherever values are put
pub cleared-slot : ℕ → List ℕ
cleared-slot i = entry_numbers 0 cleared_entry

runs-cleared : (n start : ℕ) → runs n cleared-slot ≡ entries_numbers start (replicate n cleared_entry)
unfolding runs entries_numbers cleared-slot
runs-cleared zero start = refl
runs-cleared (suc n) start = runs-first n cleared-slot ∙ ap (λ (r : List ℕ). entry_numbers 0 cleared_entry ++ r) (runs-cleared n start ∙ rw add-zero)

any-start : (n start : ℕ) → entries_numbers start (replicate n cleared_entry) ≡ cleared_numbers n
any-start n start = sym (runs-cleared n start) ∙ runs-cleared n 0

-- ---- the loop

pub record Clearing (slots₀ : List ℕ) (k n : ℕ) (slots : List ℕ) (i : ℕ) : Type 0 where
  pub within : i ≤ n
  pub wrote : Wrote slots₀ (slot_width * k) cleared-slot slots i

pub clearing-none : (slots : List ℕ) (k n : ℕ) → Clearing slots k n slots 0
clearing-none slots k n = record { within = omega arith; wrote = wrote_none }

module _ {slots₀ : List ℕ} {k n : ℕ} {slots : List ℕ} {i : ℕ} (b : Clearing slots₀ k n slots i) where
  pub clearing-done : n ≤ i → slots ≡ store_at slots₀ (slot_width * k) (cleared_numbers n)
  clearing-done h = wrote-done b.wrote b.within h ∙ ap (store_at slots₀ (slot_width * k)) (runs-cleared n 0)

  module _ (room : Clearable slots₀ k n) (h : i < n) where
    pub clearing-fits : slot_width * (k + i) + slot_width ≤ length slots
    clearing-fits = omega (arith, room.there, b.wrote.long)

    pub clearing-more : (slots' : List ℕ) → slots' ≡ store_at slots (slot_width * (k + i)) (entry_numbers 0 cleared_entry) → Clearing slots₀ k n slots' (i + 1)
    unfolding cleared-slot
    clearing-more slots' q =
        record {
          within = omega arith;
          wrote = wrote-more {to = slot_width * (k + i)} slot_width (λ j. refl) b.wrote (omega arith) (omega (arith, room.there)) q;
        }

-- ---- after the entries

module _ (slots area : List ℕ) (mark n : ℕ) (es : List Entry) (few : length es ≤ n) (there : slot_width * n ≤ length slots) where
  pub put-length : length (put_entries slots area mark es).slots ≡ length slots
  unfolding put_entries
  put-length =
      length-append (entries_numbers mark es) (drop (slot_width * length es) slots) ∙ omega (arith, length-slot-numbers mark es, length-drop (slot_width * length es) slots)

  -- the slots that are left up to n are cleared
  pub cleared-rest : store_at (put_entries slots area mark es).slots (slot_width * length es) (cleared_numbers (n - length es)) ≡ (put_entries slots area mark (filled_up n es)).slots
  unfolding put_entries
  cleared-rest =
      let ns : List ℕ = entries_numbers mark es in
      let bs : List ℕ = cleared_numbers (n - length es) in
      let len : length ns ≡ slot_width * length es = length-slot-numbers mark es in
      let rest : length bs ≡ slot_width * (n - length es) = length-slot-numbers 0 (replicate (n - length es) cleared_entry) ∙ rw length-replicate in
      let all : length (entries_numbers mark (filled_up n es)) ≡ slot_width * length (filled_up n es) = length-slot-numbers mark (filled_up n es) in
      let put : ns ++ drop (slot_width * length es) slots ≡ store_at slots 0 ns = rw (zero-add, len) in
      let numbers : ns ++ bs ≡ entries_numbers mark (filled_up n es) =
      ap (λ (r : List ℕ). ns ++ r) (sym (any-start (n - length es) (mark + length (entry_values es)))) ∙ sym (numbers-append mark es (replicate (n - length es) cleared_entry)) in
      ap (λ (l : List ℕ). store_at l (slot_width * length es) bs) put
      ∙ store-next slots 0 ns bs (slot_width * length es) (omega arith) (omega arith)
      ∙ ap (store_at slots 0) numbers ∙ rw (all, zero-add)
