-- Where the fields of a plain layout end (document 01, "What demand 3 reads back"), and the record that a packing made.
use Rattle.std.specs.Prelude.{ℕ, ◌+◌, Bool, true, false, List, [], ◌∷◌, take, leb}
use Rattle.layout.specs.declared.Role.{Role}
use Rattle.layout.specs.declared.Role.TheVariants.{Data, Move}
use Rattle.layout.specs.declared.Motion.TheVariants.{Skip, Back, Goto}
use Rattle.layout.specs.declared.Count.{Count}
use Rattle.layout.specs.declared.Count.TheVariants.{Absent, Star, Times}
use Rattle.layout.specs.declared.Field.{Field}
use Rattle.record.specs.Geometry.{amount, bytes_for}
use Rattle.record.specs.Packing.{Packed}

-- ---- a plain field: no star, no `X`, no `@`, no count of 0

abbrev pub plain_count : Count → Bool
plain_count Absent = true
plain_count Star = false
plain_count (Times n) = leb 1 n

abbrev pub plain_role : Role → Bool
plain_role (Data s) = true
plain_role (Move Skip) = true
plain_role (Move Back) = false
plain_role (Move Goto) = false

-- ---- the end of a field: how far packing has come after it, which is what it and the fields before it fill; `x` fills
-- bytes too

-- the bytes that a field without a star fills; `X` and `@` fill none
unfoldable pub fills : Role → Count → ℕ
fills (Data s) n = bytes_for s (amount n 0)
fills (Move Skip) n = amount n 0
fills (Move Back) n = 0
fills (Move Goto) n = 0

-- the end of a layout's last field; of no fields 0
unfoldable pub end_of : List Field → ℕ
unfolding fills
end_of [] = 0
end_of (f ∷ fs) = fills f.role f.count + end_of fs

-- ---- the record

-- the record that a packing made
abbrev pub record_of : Packed → List ℕ
record_of p = take p.answer.first p.output
