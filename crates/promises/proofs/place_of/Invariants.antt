-- What the loop keeps is `Walking`: of the fields from here on, number `left` is the one that is looked for.
use Prim.Native.Nat.{◌-◌}
use lib.ListN.{length}
use Rattle.promises.proofs.Places.{Walking}
use Rattle.promises.proofs.place_of.Given as goal

abbrev pub invariant-loop-at : goal.invariant-loop-at
invariant-loop-at l = Walking l.text l.k l.left l.at

abbrev pub decreases-loop-at : goal.decreases-loop-at
decreases-loop-at l = length l.text - l.at
