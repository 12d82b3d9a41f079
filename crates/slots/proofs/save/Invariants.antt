-- After i turns the first i slots are made of the numbers.
use Rattle.std.proofs.Common.{◌≡◌}
use Rattle.slots.proofs.Runs.{saved}
use Rattle.slots.proofs.save.Given as goal

abbrev pub invariant-loop-i : goal.invariant-loop-i
invariant-loop-i l = l.slots ≡ saved l.fn.slots l.numbers l.i
