-- The sum so far is that of the bytes so far, at most eight for each.

use Rattle.std.proofs.Common.{arith}
use Rattle.compare.proofs.difference.Bits.{byte-few, counted_none, counted-more, counted-done}
use Rattle.compare.proofs.difference.block_bits.Goals as goal

pub loop-i-init : goal.loop-i-init
loop-i-init c = counted_none _ _

pub overflow_cast-sum : goal.overflow_cast-sum
overflow_cast-sum c = omega (arith, byte-few _ _ c.byte_bits.ensures)

pub overflow_add-sum : goal.overflow_add-sum
overflow_add-sum c = omega (arith, c.loop-i.invariant.small, byte-few _ _ c.byte_bits.ensures)

pub loop-i-preserved : goal.loop-i-preserved
loop-i-preserved c = counted-more c.requires.0 c.loop-i.invariant (omega arith) c.byte_bits.ensures

pub returns-clause-value : goal.returns-clause-value
returns-clause-value c = counted-done c.loop-i.invariant c.requires.0 (omega arith)

pub returns-clause-few : goal.returns-clause-few
returns-clause-few c = omega (arith, c.loop-i.invariant.small)
