-- The loop keeps that the steps up to the number k are done.

use Rattle.std.proofs.Common.{length}
use Rattle.digits.specs.Steps.{showing, Advanced}
use Rattle.digits.proofs.load.show_run.Given as goal

abbrev pub invariant-loop-k : goal.invariant-loop-k
invariant-loop-k l = Advanced (showing l.high l.bytes 0 0) (length l.fn.shown) l.from l.k l.fn.shown l.shown
