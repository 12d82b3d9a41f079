-- The examples hold: one statement, which the checker computes. Then the theorems on one record each: their premises
-- can be met.
use native.Mathlib.Omega.{arith}
use mathlib.Core.List.{List}
use mathlib.Core.Path.{◌≡◌, refl}
use Prim.Native.Nat.{ℕ, ◌*◌}
use lib.Dec.{T}
use lib.ListN.{replicate}
use Rattle.layout.specs.Quoted.{bytes}
use Rattle.record.specs.Table.{slot_width}
use Rattle.compare.specs.Comparing.{Compared, compare}
use Rattle.compare_claims.specs.Claims.{WithItself, same_or_neither, OtherWayRound, other_way}
use Rattle.compare_claims.specs.Examples.{all, examples}
use Rattle.compare_claims.specs.Verdicts.{LentToCompare, compared, first_shown, second_shown}
use Rattle.compare_claims.proofs.Claims.{with_itself, other-way-round}
use Rattle.compare_claims.proofs.Verdicts.{verdicts-say}

examples-hold : T (all examples)
unfolding all examples
examples-hold = tt

-- three fields, of which the record has the first two
abbrev layout : List ℕ
layout = bytes "A2xca3"

abbrev slots : List ℕ
slots = replicate (slot_width * 3) 9

abbrev area : List ℕ
area = replicate 10 170

abbrev by : List ℕ → List ℕ → Compared
by first second = compare layout first second slots area slots area (replicate 9 7)

itself : T (same_or_neither 3 (by (bytes "ab c") (bytes "ab c")).report)
unfolding WithItself compare
itself = with_itself layout (bytes "ab c") slots area slots area (replicate 9 7) refl

other_way_lem : by (bytes "ab") (bytes "ab c") ≡ other_way (by (bytes "ab c") (bytes "ab"))
unfolding OtherWayRound compare
other_way_lem = other-way-round layout (bytes "ab c") (bytes "ab") slots area slots area (replicate 9 7) refl

-- the first field gets 0, so its slots show the same in both tables
abbrev lent : LentToCompare
lent = record {
  layout = layout;
  first = bytes "ab c";
  second = bytes "ab d";
  first_slots = slots;
  first_area = area;
  second_slots = slots;
  second_area = area;
  report = replicate 9 7;
}

first-same : first_shown (compared lent) 0 ≡ second_shown (compared lent) 0
unfolding compare
first-same = ((verdicts-say lent refl 0 (omega arith)).is_same.0 refl).2
