-- The bytes before i are the same, those of the equal blocks at first, so the two part where those from i on do.

use Rattle.compare.proofs.difference.Runs.{Alike}
use Rattle.compare.proofs.difference.first_difference.Given as goal

abbrev pub invariant-loop-i : goal.invariant-loop-i
invariant-loop-i l = Alike l.first l.second l.i
