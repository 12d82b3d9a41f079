-- The loop keeps in `good` whether all before the next are digits.

use Rattle.record.specs.Packing.{all_digits}
use Rattle.digits.proofs.all_digits.Given as goal
use Rattle.std.proofs.Common.{◌≡◌, take}

abbrev pub invariant-loop-c : goal.invariant-loop-c
invariant-loop-c l = l.good ≡ all_digits l.hex (take l.c-index l.chars)
