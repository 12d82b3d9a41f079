-- Laws of entries that are filled up with cleared ones.
use Prim.Native.Nat.{ℕ, zero, suc, ◌+◌, ◌-◌, ◌*◌, ◌≤◌}
use native.Mathlib.Nat.{add_assoc, add-zero}
use native.Mathlib.Omega.{arith}
use mathlib.Core.Path.{◌≡◌, refl, ap, ◌∙◌}
use mathlib.Core.List.{List, [], ◌∷◌, ◌++◌, append_assoc, append-nil}
use lib.ListN.{length, take, drop, replicate, length-append, length-replicate}
use lib.Seq.{take_at}
use Rattle.record.specs.Bytes.{store_at, join}
use Rattle.record.specs.Table.{slot_width}
use Rattle.sheet.specs.Entries.{Entry, entry_values}
use Rattle.sheet.specs.Sheet.{entry_numbers, entries_numbers, put_entries}
use Rattle.sheet.proofs.Tables.{length-slot-numbers, values-append}
use Rattle.rescue.specs.Rescue.{cleared_entry, filled_up}

cleared-values : (j : ℕ) → entry_values (replicate j cleared_entry) ≡ []
unfolding entry_values join
cleared-values zero = refl
cleared-values (suc j) = cleared-values j

pub numbers-append : (start : ℕ) (es fs : List Entry) → entries_numbers start (es ++ fs) ≡ entries_numbers start es ++ entries_numbers (start + length (entry_values es)) fs
unfolding entries_numbers entry_values join
numbers-append start [] fs = rw add-zero
numbers-append start (d ∷ es) fs =
    let place : start + length d.value + length (entry_values es) ≡ start + length (d.value ++ entry_values es) = rw length-append (add_assoc start (length d.value) (length (entry_values es))) in
    ap (λ (r : List ℕ). entry_numbers start d ++ r) (numbers-append (start + length d.value) es fs ∙ ap (λ (n : ℕ). entries_numbers (start + length d.value) es ++ entries_numbers n fs) place)

module _ (n : ℕ) (es : List Entry) where
  -- a cleared entry has no value
  pub filled-values : entry_values (filled_up n es) ≡ entry_values es
  filled-values = values-append es (replicate (n - length es) cleared_entry) ∙ ap (λ (r : List ℕ). entry_values es ++ r) (cleared-values (n - length es)) ∙ append-nil (entry_values es)

  pub length-filled : length es ≤ n → length (filled_up n es) ≡ n
  length-filled h = length-append es (replicate (n - length es) cleared_entry) ∙ rw length-replicate (omega arith)

  module _ (slots area : List ℕ) (mark : ℕ) where
    pub filled-area : (put_entries slots area mark (filled_up n es)).area ≡ (put_entries slots area mark es).area
    unfolding put_entries
    filled-area = ap (store_at area mark) filled-values

    -- the slots that hold the entries
    pub filled-front : take (slot_width * length es) (put_entries slots area mark (filled_up n es)).slots ≡ entries_numbers mark es
    unfolding put_entries
    filled-front =
        let more : List ℕ = entries_numbers (mark + length (entry_values es)) (replicate (n - length es) cleared_entry) in
        let rest : List ℕ = drop (slot_width * length (filled_up n es)) slots in
        ap (take (slot_width * length es)) (ap (λ (r : List ℕ). r ++ rest) (numbers-append mark es (replicate (n - length es) cleared_entry)) ∙ append_assoc (entries_numbers mark es) more rest)
        ∙ take_at (entries_numbers mark es) (more ++ rest) (slot_width * length es) (length-slot-numbers mark es)

    -- and those up to n
    pub filled-slots : length es ≤ n → take (slot_width * n) (put_entries slots area mark (filled_up n es)).slots ≡ entries_numbers mark (filled_up n es)
    unfolding put_entries
    filled-slots h =
        let long : length (entries_numbers mark (filled_up n es)) ≡ slot_width * n = length-slot-numbers mark (filled_up n es) ∙ rw (length-filled h) in
        take_at (entries_numbers mark (filled_up n es)) (drop (slot_width * length (filled_up n es)) slots) (slot_width * n) long

-- nothing is filled up where there are n
pub filled_none : (es : List Entry) → filled_up (length es) es ≡ es
filled_none es = let none : length es - length es ≡ 0 = omega arith in rw none (append-nil es)
