-- The stores side by side are one run of numbers.
use native.Mathlib.Omega.{arith}
use Rattle.record.proofs.SlotLaws.{set-numbers}
use Rattle.slot_table.proofs.set_slot.Goals as goal

pub returns : goal.returns
returns c = set-numbers c.args.slots.now c.args.k _ _ _ _ (omega arith)
