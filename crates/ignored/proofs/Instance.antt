-- The premises can be met: two tables of one slot, and the layouts `au3xu2` and `a3x2`; `q` and `qu`, with `Su` in
-- both.
use Prim.Native.Nat.{ℕ, zero, suc, ◌%◌}
use native.Mathlib.Omega.{arith}
use mathlib.Core.Path.{◌≡◌, refl}
use mathlib.Core.Bool.{true, false}
use mathlib.Core.List.{List, [], ◌∷◌}
use lib.ListN.{get_or}
use Rattle.layout.specs.declared.Role.TheVariants.{Data, Move}
use Rattle.layout.specs.declared.Motion.TheVariants.{Skip}
use Rattle.layout.specs.declared.Shape.TheVariants.{Text, Integers, Reals}
use Rattle.layout.specs.declared.Count.TheVariants.{Absent, Times}
use Rattle.layout.specs.Layout.{fields_of}
use Rattle.layout.specs.Quoted.{bytes}
use Rattle.record.specs.Table.{slot_width}
use Rattle.ignored.specs.Positions.{position_place, ButPositions}
use Rattle.ignored.specs.Flags.{Alike, unflagged, flagged_integers}

abbrev one : List ℕ
one = 1 ∷ 0 ∷ 2 ∷ 5 ∷ []

abbrev two : List ℕ
two = 1 ∷ 0 ∷ 2 ∷ 9 ∷ []

moved : ButPositions one two
moved = record { as_many = refl; others = same }
  where
    same : (i : ℕ) → (i % slot_width ≡ position_place → ⊥) → get_or one i 0 ≡ get_or two i 0
    same zero h = refl
    same (suc zero) h = refl
    same (suc (suc zero)) h = refl
    same (suc (suc (suc zero))) h = absurd (h refl)
    same (suc (suc (suc (suc i)))) h = refl

packed : Alike true unflagged (bytes "au3xu2") (bytes "a3x2")
unfolding fields_of
packed = record {
  fields =
      record { role = Data (Text 0); unsigned = true; count = Times 3 }
      ∷ record { role = Move Skip; unsigned = true; count = Times 2 }
      ∷ [];
  fields' =
      record { role = Data (Text 0); unsigned = false; count = Times 3 }
      ∷ record { role = Move Skip; unsigned = false; count = Times 2 }
      ∷ [];
  has-fields = refl;
  has-fields' = refl;
  same = refl;
  short = omega arith;
  short' = omega arith;
}

read : Alike false flagged_integers (bytes "q Su") (bytes "quSu")
unfolding fields_of
read = record {
  fields =
      record { role = Data (Reals false false); unsigned = false; count = Absent }
      ∷ record { role = Data (Integers 2 true); unsigned = true; count = Absent }
      ∷ [];
  fields' =
      record { role = Data (Reals false false); unsigned = true; count = Absent }
      ∷ record { role = Data (Integers 2 true); unsigned = true; count = Absent }
      ∷ [];
  has-fields = refl;
  has-fields' = refl;
  same = refl;
  short = omega arith;
  short' = omega arith;
}
