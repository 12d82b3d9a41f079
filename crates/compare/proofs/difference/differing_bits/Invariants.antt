-- The sum so far is that of the blocks so far.

use Rattle.compare.proofs.difference.Bits.{Counted}
use Rattle.compare.proofs.difference.differing_bits.Given as goal
use Rattle.std.proofs.Common.{◌*◌}

abbrev pub invariant-loop-k : goal.invariant-loop-k
invariant-loop-k l = Counted l.first l.second l.sum (16 * l.k)
