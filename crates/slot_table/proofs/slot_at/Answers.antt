-- Each number is read where the slot has it.
use mathlib.Core.Path.{refl}
use Rattle.record.specs.Slots.{slot_at}
use Rattle.slot_table.proofs.slot_at.Goals as goal

pub returns : goal.returns
unfolding slot_at
returns c = refl
