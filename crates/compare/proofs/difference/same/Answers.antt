-- Runs of different lengths are not the same.

use Rattle.std.proofs.Common.{sym, length}
use Rattle.compare.proofs.difference.Runs.{same-long}
use borrow.Author.Tests.{ne_eqb}
use Rattle.compare.proofs.difference.same.Goals as goal

pub returns-else-first-second : goal.returns-else-first-second
returns-else-first-second c =
    rw (ne_eqb (length c.args.first.now) (length c.args.second.now) c.if-first-second.false) (sym (same-long c.args.first.now c.args.second.now c.if-first-second.false))
