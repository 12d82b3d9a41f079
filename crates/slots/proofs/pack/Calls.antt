-- Packing over slots is packing of their numbers: of no more slots than a table may have it is made over the first part
-- of the scratch, and of more it is refused.
use mathlib.Core.Path.{◌≡◌, sym, ap, ◌∙◌}
use Prim.Native.Nat.{ℕ, ◌*◌, ◌<◌, ◌≤◌}
use native.Mathlib.Nat.{lt_of_not-le}
use native.Mathlib.Decide.{dec_le}
use mathlib.Core.List.{List}
use lib.ListN.{length, take}
use borrow.Author.Tests.{le-leb, lt-leb}
use Rattle.layout.specs.declared.Refusal.TheVariants.{BadSize}
use Rattle.record.specs.Table.{slot_width, max_slots}
use Rattle.record.specs.Packing.{pack, packs, refusal}
use Rattle.slots.specs.declared.SlotRecord.{SlotRecord}
use Rattle.slots.specs.Slots.{slots_numbers, taken}
use Rattle.slots.proofs.Runs.{filled}
use Rattle.slots.proofs.Limits.{first-numbers, beyond}
use Rattle.slots.specs.inside.pack.{pack_first}

-- ---- the core call on the first part of the scratch

module _ (layout ns area output : List ℕ) (n : ℕ) where
  pub pack-few : n ≤ max_slots → pack layout (take (n * slot_width) ns) area output ≡ pack_first layout ns n area output
  unfolding pack_first
  pack-few l = rw (le-leb n max_slots l)

  pub pack-many : max_slots < n → record { answer = refusal BadSize 0; output = output } ≡ pack_first layout ns n area output
  unfolding pack_first
  pack-many l = rw (lt-leb n max_slots l)

-- ---- more slots than a table may have: number 1

pack-over : (layout area output : List ℕ) (ss : List SlotRecord) → max_slots < length ss → record { answer = refusal BadSize 0; output = output } ≡ pack layout (slots_numbers ss) area output
unfolding pack packs
pack-over layout area output ss l = rw (beyond layout output area ss l)

-- ---- the call over slots

pub pack-loaded : (layout ns area output : List ℕ) (ss : List SlotRecord) → pack_first layout (filled (taken (length ss)) ss ns) (length ss) area output ≡ pack layout (slots_numbers ss) area output
pack-loaded layout ns area output ss = elim (dec_le (length ss) max_slots) [
  | yes l ↦ sym (pack-few layout _ area output (length ss) l) ∙ ap (λ (z : List ℕ). pack layout z area output) (first-numbers ss ns l)
  | no l ↦ sym (pack-many layout _ area output (length ss) (lt_of_not-le l)) ∙ pack-over layout area output ss (lt_of_not-le l)
]

-- of the scratch ws, after r slots are taken apart
pub pack-scratch : (layout ns ws area output : List ℕ) (ss : List SlotRecord) (r : ℕ)
    → r ≡ taken (length ss) → ws ≡ filled r ss ns
    → pack_first layout ws (length ss) area output ≡ pack layout (slots_numbers ss) area output
pack-scratch layout ns ws area output ss r e g =
    ap (λ (m : List ℕ). pack_first layout m (length ss) area output) (g ∙ ap (λ (k : ℕ). filled k ss ns) e)
    ∙ pack-loaded layout ns area output ss
