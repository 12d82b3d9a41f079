-- What the loop keeps is `Clearing`: the first i slots from number k on are cleared.
use Rattle.rescue.proofs.fill.Clearing.{Clearing}
use Rattle.rescue.proofs.fill.clear.Given as goal

abbrev pub invariant-loop-i : goal.invariant-loop-i
invariant-loop-i l = Clearing l.initial.slots l.k l.n l.slots l.i
