-- The two halves' characters, stored one after the other, are the byte's.

use Rattle.std.proofs.Common.{◌∙◌}
use Rattle.digits.proofs.chars.CharLaws.{low_first, high-first}
use Rattle.digits.proofs.chars.write_eight.Goals as goal

pub returns-then-high : goal.returns-then-high
returns-then-high c = rw c.if-high.true (c.put_fours.ensures ∙ rw (c.high_first.ensures, c.high_first-then-high.ensures) (high-first c.args.b))

pub returns-else-high : goal.returns-else-high
returns-else-high c = rw c.if-high.false (c.put_fours-else-high.ensures ∙ rw (c.low_first.ensures, c.low_first-else-high.ensures) (low_first c.args.b))
