-- What the walk over the slots computes.
use Rattle.std.specs.Prelude.{ℕ, ◌+◌, ◌*◌, ◌≤◌, eqb, List, [], ◌∷◌, Float, Option, None, Some, Result as Turn, Ok, Err, if◌then◌else◌}
use Rattle.layout.specs.Refusals.{Result, ok, refused}
use Rattle.record.specs.Table.{max_slots}
use Rattle.record.specs.declared.Answer.{Answer}
use Rattle.record.specs.Packing.{refusal}
use Rattle.mean.specs.declared.marks.Tally.{Tally}
use Rattle.mean.specs.Mean.{Leg, unset, marked, max_mark, quotient}

-- the tally with one leg more
abbrev pub counted : Tally → Leg → Tally
counted t unset = record { sum = t.sum; marked = t.marked; unset = t.unset + 1 }
counted t (marked m) = record { sum = t.sum + m; marked = t.marked + 1; unset = t.unset }

-- what the code answers of one slot
abbrev pub turn_of : Tally → Result Leg → Turn Tally Answer
turn_of t (ok l) = Ok (counted t l)
turn_of t (refused why place) = Err (refusal why place)

-- a walk that has counted t, over the rest of the legs
unfoldable pub tallied : Tally → List Leg → Tally
tallied t [] = t
tallied t (l ∷ ls) = tallied (counted t l) ls

abbrev pub outcome : Tally → Result (List Leg) → Turn Tally Answer
outcome t (ok ls) = Ok (tallied t ls)
outcome t (refused why place) = Err (refusal why place)

-- nothing is counted yet
abbrev pub none : Tally
none = record { sum = 0; marked = 0; unset = 0 }

abbrev pub mean_of_tally : Tally → Option Float
mean_of_tally t = if eqb t.marked 0 then None else Some (quotient t.sum t.marked)

-- after k slots the numbers are far from wrapping
pub record Near (k : ℕ) (t : Tally) : Type 0 where
  pub few : k ≤ max_slots
  pub sum : t.sum ≤ k * max_mark
  pub marked : t.marked ≤ k
  pub unset : t.unset ≤ k
