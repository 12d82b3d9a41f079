-- The loop keeps that the blocks before number k are the same.

use Rattle.compare.specs.Difference.{same_bytes}
use Rattle.compare.proofs.difference.equal_blocks.Given as goal
use Rattle.std.proofs.Common.{◌≡◌, ◌*◌, take, true}

abbrev pub invariant-loop-k : goal.invariant-loop-k
invariant-loop-k l = same_bytes (take (16 * l.k) l.first) (take (16 * l.k) l.second) ≡ true
