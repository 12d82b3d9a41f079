-- The test is the definition's own.
use Rattle.std.proofs.Common.{sym, rules}
use Rattle.slots.proofs.Limits.{taken-few, taken-many}
use Rattle.slots.proofs.taken.Goals as goal

pub returns-then-count-le-MAX_SLOTS-clause-value : goal.returns-then-count-le-MAX_SLOTS-clause-value
returns-then-count-le-MAX_SLOTS-clause-value c = sym (taken-few c.args.count (search rules))

pub returns-else-count-le-MAX_SLOTS-clause-value : goal.returns-else-count-le-MAX_SLOTS-clause-value
returns-else-count-le-MAX_SLOTS-clause-value c = sym (taken-many c.args.count (search rules))
