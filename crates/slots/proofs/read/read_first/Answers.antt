-- More slots than a table may have are refused here; else it is the core call on the first numbers.
use Rattle.std.proofs.Common.{sym, ◌∙◌, arith}
use Rattle.slots.proofs.Limits.{first_part}
use Rattle.slots.proofs.read.Calls.{read-few, read-many, read-front}
use Rattle.slots.proofs.read.read_first.Goals as goal

pub returns-then-count-gt-MAX_SLOTS : goal.returns-then-count-gt-MAX_SLOTS
returns-then-count-gt-MAX_SLOTS c = rw c.refused.ensures (read-many _ _ _ _ _ _ (omega arith))

pub returns : goal.returns
returns c =
    read-front _ _ _
    (c.read.auto.slots ∙ sym (first_part c.args.numbers.now c.args.count (omega arith) c.requires))
    (c.read.ensures ∙ read-few _ _ _ _ _ _ (omega arith))
