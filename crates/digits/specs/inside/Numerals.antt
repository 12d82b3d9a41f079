-- Digits: where each stands in its byte, and their values.
use Rattle.std.specs.Prelude.{ℕ, ◌-◌, ◌<◌, Bool, true, false, List, length, get_or}
use Rattle.record.specs.Geometry.{base}
use Rattle.record.specs.Packing.{digit_value}

-- where the digit number j of n, from the lowest, stands
abbrev pub place_of : Bool → ℕ → ℕ → ℕ
place_of true n j = n - 1 - j
place_of false n j = j

-- the characters are digits
abbrev pub AreDigits : Bool → List ℕ → Type 0
AreDigits hex cs = (i : ℕ) → i < length cs → digit_value (get_or cs i 0) < base hex
