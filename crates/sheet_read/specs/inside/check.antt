-- What the functions of this crate promise.
use Rattle.std.specs.Prelude.{ℕ, ◌+◌, ◌*◌, ◌^◌, ◌≤◌, ◌≡◌, Bool, not, ◌||◌, List, length, take, eqb, ltb}
use Rattle.sheet.specs.Entries.{Entry, entry_values}
use Rattle.sheet.specs.Sheet.{version1, width_of, header_size, entries_at, entries_end}
use Rattle.sheet_read.specs.declared.check.SheetExtent.{SheetExtent}

-- the fitting rule, by the number of entries and of the bytes of their values
abbrev pub needed_by : ℕ → ℕ → ℕ → Bool
needed_by v entries values =
    eqb v version1 || not (ltb (entries * header_size (width_of version1) + values) (256 ^ width_of version1))

-- the first of the whole entries after a sheet's header, at most `most`
abbrev pub front_of : ℕ → ℕ → List ℕ → List Entry
front_of w most sheet = take most (entries_at w sheet)

-- r says how many the entries es are, the bytes of their values, and where they end in the sheet
pub record ExtentOf (w : ℕ) (es : List Entry) (sheet : List ℕ) (r : SheetExtent) : Type 0 where
  pub entries : r.entries ≡ length es
  pub values : r.values ≡ length (entry_values es)
  pub end : r.end ≡ entries_end w es
  pub within : r.end ≤ length sheet
  pub small : r.entries + r.values ≤ r.end
