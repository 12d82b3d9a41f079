-- The premises can be met: the layouts of `evolution`'s own instance, the new record cut inside its last field.
use native.Mathlib.Omega.{arith}
use mathlib.Core.Path.{refl}
use mathlib.Core.Bool.{Bool, true, false}
use mathlib.Core.List.{[], ◌∷◌}
use lib.ListN.{replicate}
use Rattle.layout.specs.Layout.{slot_count}
use Rattle.record.specs.Table.{slots_of, value_bytes}
use Rattle.record.specs.Packing.{pack, filled}
use Rattle.evolution.specs.Claim.{set_by}
use Rattle.evolution.specs.Pair.{pair}
use Rattle.slots.specs.Slots.{slots_numbers}
use Rattle.slots.specs.ReadBack.{SlotsLent, SlotsMeant}

-- "ab" and -2, and two slots of nines
abbrev calls : SlotsLent
calls = record {
  arguments =
      record { kind = 1; start = 0; length = 2; position = 9 }
      ∷ record { kind = 2; start = 2; length = 1; position = 9 }
      ∷ [];
  cut = 5;
  table = replicate 2 (record { kind = 9; start = 9; length = 9; position = 9 });
  values = replicate 4 9;
  mark = 1;
}

meant : (layout : Bool) → SlotsMeant pair true layout calls
unfolding slots_numbers pair pack set_by filled slots_of slot_count value_bytes
meant true = record {
  arguments = refl;
  reads = record { within = omega arith; sizes = tt; enough-slots = omega arith; room = omega arith };
}
meant false = record {
  arguments = refl;
  reads = record { within = omega arith; sizes = tt; enough-slots = omega arith; room = omega arith };
}
