-- The pass over the fields of a layout: the cursor, where starred values are empty.
use Rattle.std.specs.Prelude.{ℕ, ◌≤◌, ◌≡◌, true, List, [], ◌∷◌, length}
use Rattle.layout.specs.declared.Field.{Field}
use Rattle.layout.specs.Refusals.{ok}
use Rattle.layout.specs.Layout.{max_layout, fields_of}
use Rattle.layout.specs.inside.Parsing.{decoded}
use Rattle.record.specs.declared.Cursor.{Cursor}
use Rattle.pack_check.specs.inside.measuring.{advance}
use Rattle.describe.specs.Description.{layout_reach, least_length}

unfoldable pub passed : Cursor → List Field → Cursor
passed c [] = c
passed c (f ∷ fs) = passed (advance c f.role f.count 0) fs

-- the codes hold n fields, which are those of some layout
pub record Holds (n : ℕ) (ws : List ℕ) : Type 0 where
  pub few : n ≤ length ws
  pub room : length ws ≤ max_layout
  pub text : List ℕ
  pub fields : fields_of true text ≡ ok (decoded n ws)

-- r is the length of the shortest record, and fits the answer
pub record Least (fs : List Field) (r : ℕ) : Type 0 where
  pub same : r ≡ least_length fs
  pub small : r ≤ layout_reach
