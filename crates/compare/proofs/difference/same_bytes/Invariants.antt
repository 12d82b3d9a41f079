-- The loop keeps in `good` whether the bytes up to i are the same.

use Rattle.compare.specs.Difference.{same_bytes}
use Rattle.compare.proofs.difference.same_bytes.Given as goal
use Rattle.std.proofs.Common.{◌≡◌, take}

abbrev pub invariant-loop-i : goal.invariant-loop-i
invariant-loop-i l = l.good ≡ same_bytes (take l.i l.first) (take l.i l.second)
