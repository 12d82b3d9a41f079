-- Packing over a slice of slot records (01, Slot tables): THE EFFECT OF A CALL is `pack` of the slots' numbers.
-- Here is the step that it takes.
use Rattle.std.specs.Prelude.{ℕ, ◌*◌, List, take, leb, if◌then◌else◌}
use Rattle.layout.specs.declared.Refusal.TheVariants.{BadSize}
use Rattle.layout.specs.Refusals.{refused}
use Rattle.record.specs.Table.{max_slots, slot_width}
use Rattle.record.specs.Packing.{Packed, pack, pack_effect}

-- the packing on the numbers of the first n slots; where these are more than a table may have, number 1
unfoldable pub pack_first : List ℕ → List ℕ → ℕ → List ℕ → List ℕ → Packed
unfolding pack
pack_first layout ns n area output =
    if leb n max_slots then pack layout (take (n * slot_width) ns) area output else pack_effect output (refused BadSize 0)
