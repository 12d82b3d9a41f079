-- The scratch begins with the slots' numbers.
use Rattle.std.proofs.Common.{◌∙◌}
use Rattle.slots.proofs.pack.Calls.{pack-scratch}
use Rattle.slots.proofs.pack.pack_slots.Goals as goal

pub returns : goal.returns
returns c = c.pack_first.ensures ∙ pack-scratch _ _ _ _ _ _ _ c.load.ensures.numbers.0 c.load.ensures.numbers.1
