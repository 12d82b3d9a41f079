-- What the functions of this crate promise each other.
use Rattle.std.specs.Prelude.{ℕ, ◌+◌, ◌*◌, ◌^◌, ◌≡◌, true, List, length, eqb, ltb, Ok, if◌then◌else◌}
use Rattle.sheet.specs.Sheet.{version1, version2, width_of, header_size, sheet_sizes_fit}
use Rattle.sheet_write.specs.inside.store.{MeasuredAs}

-- the sizes keep and all slots fit; header and entries take n bytes in version 1
pub record Checked (slots area buffer : List ℕ) (n : ℕ) : Type 0 where
  pub sizes : sheet_sizes_fit (length slots) (length area) (length buffer) ≡ true
  pub measured : MeasuredAs (width_of version1) slots area (Ok n)

-- the version for a sheet that takes n bytes in version 1; and the bytes that it takes in the version v, with `entries`
-- entries
abbrev pub version_by : ℕ → ℕ
version_by n = if ltb n (256 ^ width_of version1 + header_size (width_of version1)) then version1 else version2

abbrev pub length_in : ℕ → ℕ → ℕ → ℕ
length_in v n entries = if eqb v version2 then n + 2 * (entries + 1) else n
