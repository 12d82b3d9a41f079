-- What the loop keeps is `Walking`: the walk from here on gives what the walk from the start gives.
use Rattle.mean.proofs.marks.WalkLaws.{Walking}
use Rattle.mean.proofs.tally.Given as goal

abbrev pub invariant-loop-k : goal.invariant-loop-k
invariant-loop-k l = Walking l.area l.slots l.k l.t
