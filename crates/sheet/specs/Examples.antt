-- Tables, areas and sheets that worked examples are written with: those of sheets (crate `sheet_claims`) and of
-- rescues.
use Rattle.std.specs.Prelude.{ℕ, zero, suc, Bool, true, false, ◌&&◌, List, [], ◌∷◌, ◌++◌, replicate, eqb}
use Rattle.layout.specs.Quoted.{bytes}
use Rattle.record.specs.Table.{no_position}

-- ---- the example of 02

-- a slot that is not set, a string and an integer, with positions that no sheet keeps; the area has "OK" and the eight
-- bytes of -2
unfoldable pub ok_table : List ℕ
ok_table = 0 ∷ 7 ∷ 5 ∷ 3 ∷ 1 ∷ 0 ∷ 2 ∷ 4096 ∷ 2 ∷ 2 ∷ 1 ∷ no_position ∷ []

unfoldable pub ok_area : List ℕ
ok_area = bytes "OK" ++ (0xff ∷ 0xff ∷ 0xff ∷ 0xff ∷ 0xff ∷ 0xff ∷ 0xff ∷ 0xfe ∷ [])

unfoldable pub ok_sheet : List ℕ
ok_sheet =
    0x01 ∷ 0x00 ∷ 0x13
    ∷ 0x00 ∷ 0x01 ∷ 0x00
    ∷ 0x00 ∷ 0x03 ∷ 0x01 ∷ 0x4f ∷ 0x4b
    ∷ 0x00 ∷ 0x09 ∷ 0x02 ∷ 0xff ∷ 0xff ∷ 0xff ∷ 0xff ∷ 0xff ∷ 0xff ∷ 0xff ∷ 0xfe
    ∷ []

-- ---- other tables and sheets

-- n entries that are not set
unfoldable pub not_set : ℕ → List ℕ
not_set zero = []
not_set (suc n) = 0 ∷ 1 ∷ 0 ∷ not_set n

-- a slot of a sheet, before others; n slots that are not set
unfoldable pub set : ℕ → ℕ → ℕ → List ℕ → List ℕ
set kind start len rest = kind ∷ start ∷ len ∷ no_position ∷ rest

unfoldable pub unset_slots : ℕ → List ℕ
unfolding set
unset_slots zero = []
unset_slots (suc n) = set 0 0 0 (unset_slots n)

-- the sheet of one string of 65,533 bytes
unfoldable pub long_sheet : List ℕ
long_sheet = 2 ∷ 0 ∷ 1 ∷ 0 ∷ 2 ∷ 0 ∷ 0 ∷ 255 ∷ 254 ∷ 1 ∷ replicate 65533 65

-- ---- what an example compares

unfoldable pub same : List ℕ → List ℕ → Bool
same [] [] = true
same [] (y ∷ ys) = false
same (x ∷ xs) [] = false
same (x ∷ xs) (y ∷ ys) = eqb x y && same xs ys
