-- The sum so far is that of the bytes so far, at most eight for each.

use Rattle.compare.proofs.difference.Bits.{Counted}
use Rattle.compare.proofs.difference.block_bits.Given as goal

abbrev pub invariant-loop-i : goal.invariant-loop-i
invariant-loop-i l = Counted l.first l.second l.sum l.i
