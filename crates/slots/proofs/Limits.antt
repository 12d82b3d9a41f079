-- How many slots are taken apart: of no more than a table may have all, whose numbers are then the first of the
-- scratch, and of more none, since their call is refused.
use mathlib.Core.Path.{◌≡◌, sym, ap, ◌∙◌}
use Prim.Native.Nat.{ℕ, ◌*◌, ◌<◌, ◌≤◌}
use native.Mathlib.Omega.{arith}
use mathlib.Core.Bool.{false}
use mathlib.Core.List.{List, ◌++◌}
use lib.ListN.{length, take, drop}
use lib.Seq.{take_at, take-length, length-take-le}
use borrow.Author.Tests.{le-leb, lt-leb}
use Rattle.record.specs.Geometry.{sizes_fit}
use Rattle.record.proofs.Sizes.{too_many}
use Rattle.record.specs.Table.{slot_width, max_slots}
use Rattle.slots.specs.declared.SlotRecord.{SlotRecord}
use Rattle.slots.specs.Slots.{max_numbers, slots_numbers, taken}
use Rattle.slots.proofs.Runs.{filled, length-numbers}

pub taken-few : (n : ℕ) → n ≤ max_slots → taken n ≡ n
unfolding taken
taken-few n l = rw (le-leb n max_slots l)

pub taken-many : (n : ℕ) → max_slots < n → taken n ≡ 0
unfolding taken
taken-many n l = rw (lt-leb n max_slots l)

-- the first numbers of the scratch
pub first-numbers : (ss : List SlotRecord) (ns : List ℕ) → length ss ≤ max_slots → take (length ss * slot_width) (filled (taken (length ss)) ss ns) ≡ slots_numbers ss
first-numbers ss ns l =
    ap (λ (k : ℕ). take (length ss * slot_width) (filled k ss ns)) (taken-few (length ss) l)
    ∙ ap (λ (z : List SlotRecord). take (length ss * slot_width) (slots_numbers z ++ drop (length ss * slot_width) ns)) (take-length ss)
    ∙ take_at (slots_numbers ss) (drop (length ss * slot_width) ns) (length ss * slot_width) (length-numbers ss)

pub first_part : (ns : List ℕ) (n : ℕ) → n ≤ max_slots → max_numbers ≤ length ns → n * slot_width ≡ length (take (n * slot_width) ns)
first_part ns n l g = sym (length-take-le (n * slot_width) ns (omega arith))

-- more slots than a table may have: number 1
pub beyond : (layout bytes area : List ℕ) (ss : List SlotRecord) → max_slots < length ss → sizes_fit layout (slots_numbers ss) bytes area ≡ false
beyond layout bytes area ss l = too_many (length layout) (length (slots_numbers ss)) (length bytes) (length area) (omega (arith, length-numbers ss))
