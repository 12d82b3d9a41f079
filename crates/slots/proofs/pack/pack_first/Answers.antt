-- More slots than a table may have are refused here; else it is the core call on the first numbers.
use Rattle.std.proofs.Common.{◌∙◌, arith}
use Rattle.slots.proofs.pack.Calls.{pack-few, pack-many}
use Rattle.slots.proofs.pack.pack_first.Goals as goal

pub returns-then-count-gt-MAX_SLOTS : goal.returns-then-count-gt-MAX_SLOTS
returns-then-count-gt-MAX_SLOTS c = rw c.refused.ensures (pack-many _ _ _ _ _ (omega arith))

pub returns : goal.returns
returns c = c.pack.ensures ∙ pack-few _ _ _ _ _ (omega arith)
