-- How far code counts.
use Rattle.std.specs.Prelude.{ℕ, ◌*◌}
use Rattle.record.specs.Table.{number_limit}

-- Code counts items below this bound: no limit of 01, but above each count and each length that a slot can say, and far
-- below `u64_limit`, what a number of 64 bits holds.
abbrev pub items_limit : ℕ
items_limit = 2 * number_limit

abbrev pub u64_limit : ℕ
u64_limit = 18446744073709551616
