-- What the verdicts of a comparing say (02, M-102), of the tables and areas that it leaves, and that these are those of
-- two readings (crate record), each from mark 0. The proofs are in proofs/Verdicts.antt.
use Rattle.std.specs.Prelude.{ℕ, ◌*◌, ◌≤◌, ◌<◌, ◌≡◌, ◌↔◌, List, get_or}
use Rattle.record.specs.Table.{Value, shown}
use Rattle.record.specs.Slots.{slot_at}
use Rattle.record.specs.Reading.{Read, read}
use Rattle.compare.specs.Difference.{report_width, both_same, only_first, only_second, in_neither, both_differ}
use Rattle.compare.specs.Comparing.{Compared, compare}

-- ---- the calls

-- what a comparing is lent
pub record LentToCompare : Type 0 where
  pub layout : List ℕ
  pub first : List ℕ
  pub second : List ℕ
  pub first_slots : List ℕ
  pub first_area : List ℕ
  pub second_slots : List ℕ
  pub second_area : List ℕ
  pub report : List ℕ

abbrev pub compared : LentToCompare → Compared
compared c =
    compare c.layout c.first c.second c.first_slots c.first_area c.second_slots c.second_area
    c.report

-- the two readings
abbrev pub first_read : LentToCompare → Read
first_read c = read c.layout c.first c.first_slots c.first_area 0

abbrev pub second_read : LentToCompare → Read
second_read c = read c.layout c.second c.second_slots c.second_area 0

-- ---- tables and areas

-- both readings are accepted, and what they leave is what the comparing leaves
pub record Readings (c : LentToCompare) : Type 0 where
  pub first-accepted : (first_read c).answer.number ≡ 0
  pub second-accepted : (second_read c).answer.number ≡ 0
  pub first-slots : (compared c).first_slots ≡ (first_read c).slots
  pub first-area : (compared c).first_area ≡ (first_read c).area
  pub second-slots : (compared c).second_slots ≡ (second_read c).slots
  pub second-area : (compared c).second_area ≡ (second_read c).area

abbrev pub AsReadings : Type 0
AsReadings = (c : LentToCompare) → (compared c).answer.number ≡ 0 → Readings c

-- ---- verdicts

-- the verdict on field number i: the first number of its finding
abbrev pub verdict_at : List ℕ → ℕ → ℕ
verdict_at report i = get_or report (report_width * i) 0

-- what slot number i of either table shows, kind and items
abbrev pub first_shown : Compared → ℕ → Value
first_shown c i = shown c.first_area (slot_at c.first_slots i)

abbrev pub second_shown : Compared → ℕ → Value
second_shown c i = shown c.second_area (slot_at c.second_slots i)

-- Each verdict is given exactly where this holds, of field number i, if the first reading set m slots and the second n.
pub record Says (i m n : ℕ) (same : Type 0) (verdict : ℕ) : Type 0 where
  pub is_same : (verdict ≡ both_same) ↔ ((i < m) × (i < n) × same)
  pub is-first : (verdict ≡ only_first) ↔ ((i < m) × (n ≤ i))
  pub is-second : (verdict ≡ only_second) ↔ ((m ≤ i) × (i < n))
  pub is-neither : (verdict ≡ in_neither) ↔ ((m ≤ i) × (n ≤ i))
  pub is-different : (verdict ≡ both_differ) ↔ ((i < m) × (i < n) × (same → ⊥))

-- Every finding has the verdict that `Says` gives it, where "same" is that both slots show the same.
abbrev pub VerdictsSay : Type 0
VerdictsSay =
    (c : LentToCompare) → (compared c).answer.number ≡ 0 → (i : ℕ) → i < (compared c).answer.first
    → Says i (first_read c).answer.first (second_read c).answer.first
    (first_shown (compared c) i ≡ second_shown (compared c) i)
    (verdict_at (compared c).report i)
