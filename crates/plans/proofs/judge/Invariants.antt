-- The loop keeps `Judging`: the fields so far are those of the numbers before number i.
use Rattle.plans.proofs.Judging.{Judging}
use Rattle.plans.proofs.judge.Given as goal

abbrev pub invariant-loop-i : goal.invariant-loop-i
invariant-loop-i l = Judging l.packing l.plan l.i l.slots
