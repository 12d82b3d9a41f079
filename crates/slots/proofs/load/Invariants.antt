-- After i turns the numbers of the first i slots are stored.
use Rattle.std.proofs.Common.{◌≡◌}
use Rattle.slots.proofs.Runs.{loaded}
use Rattle.slots.proofs.load.Given as goal

abbrev pub invariant-loop-i : goal.invariant-loop-i
invariant-loop-i l = l.numbers ≡ loaded l.slots l.fn.numbers l.i
