-- What the functions of this crate promise each other.
use Rattle.std.specs.Prelude.{ℕ, ◌≡◌, List}
use Rattle.sheet.specs.declared.lengths.Version.{Version}
use Rattle.sheet.specs.Sheet.{version_of}
use Rattle.sheet.specs.inside.Steps.{byte_of, SheetOpened}

-- the sizes keep, the version is v, and the header is sound
pub record OpenedAs (v : Version) (sheet slots area : List ℕ) (mark : ℕ) : Type 0 where
  pub opened : SheetOpened sheet slots area mark
  pub version : byte_of v ≡ version_of sheet
