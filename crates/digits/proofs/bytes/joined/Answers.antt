-- Each order's sum is the number of two digits.

use Rattle.std.proofs.Common.{arith}
use Rattle.record.specs.Bytes.{number}
use Rattle.digits.proofs.bytes.joined.Goals as goal

pub returns-then-high : goal.returns-then-high
unfolding number
returns-then-high c = rw c.if-high.true (omega arith)

pub returns-else-high : goal.returns-else-high
unfolding number
returns-else-high c = rw c.if-high.false (omega arith)
