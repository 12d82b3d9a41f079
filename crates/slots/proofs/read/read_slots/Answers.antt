-- The scratch begins with the slots' numbers, before the reading and after it.
use Rattle.slots.proofs.read.Calls.{read-scratch}
use Rattle.slots.proofs.read.read_slots.Goals as goal

pub returns : goal.returns
returns c =
    read-scratch _ _ _ _ _ _ _ _ _ _ _ _ c.load-count.ensures.numbers.0 c.load-count.ensures.numbers.1 c.read_first-answer.ensures
    c.save.ensures
