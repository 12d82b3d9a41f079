-- What the functions of this crate promise each other.
use Rattle.std.specs.Prelude.{ℕ, ◌≤◌, ◌≡◌, true, false, List, length}
use Rattle.layout.specs.Refusals.{ok}
use Rattle.layout.specs.Layout.{max_layout, fields_of, slot_count}
use Rattle.layout.specs.inside.Parsing.{decoded}
use Rattle.reader.specs.inside.Sizes.{read_lent_fits}

-- the codes are the fields of the layout, of which `taken` take a slot, and what the first reading is lent keeps to its
-- size
pub record LayoutOpened (taken : ℕ) (codes layout first slots area : List ℕ) : Type 0 where
  pub fields : fields_of false layout ≡ ok (decoded (length codes) codes)
  pub count : taken ≡ slot_count (decoded (length codes) codes)
  pub room : length codes ≤ max_layout
  pub sizes : read_lent_fits (length layout) (length slots) (length first) (length area) 0 ≡ true
