-- Reading over slots is reading into their numbers: of no more slots than a table may have it is made over the first
-- part of the scratch, and of more it is refused.
use mathlib.Core.Path.{◌≡◌, sym, ap, ◌∙◌}
use Prim.Native.Nat.{ℕ, ◌*◌, ◌<◌, ◌≤◌}
use native.Mathlib.Nat.{lt_of_not-le}
use native.Mathlib.Decide.{dec_le}
use mathlib.Core.List.{List, ◌++◌, append-nil}
use lib.ListN.{length, take, drop}
use lib.Seq.{take_at, drop-length}
use borrow.Author.Tests.{le-leb, lt-leb}
use Rattle.layout.specs.declared.Refusal.TheVariants.{BadSize}
use Rattle.record.specs.declared.ReadAnswer.{ReadAnswer}
use Rattle.record.specs.Table.{slot_width, max_slots}
use Rattle.record.specs.Packing.{refusal}
use Rattle.record.specs.Reading.{read, read_steps, reads, ReadAll, read_all}
use Rattle.slots.specs.declared.SlotRecord.{SlotRecord}
use Rattle.slots.specs.Slots.{slots_numbers, slots_from, taken}
use Rattle.slots.proofs.Runs.{filled, slots-back}
use Rattle.slots.proofs.Limits.{taken-few, taken-many, first-numbers, beyond}
use Rattle.slots.specs.Reading.{read_first, read_slots, with_slots}

-- ---- the core call on the first part of the scratch

module _ (layout bs ns area : List ℕ) (n mark : ℕ) where
  pub read-few : n ≤ max_slots → read_all layout bs (take (n * slot_width) ns) area mark ≡ read_first layout bs ns n area mark
  unfolding read_first
  read-few l = rw (le-leb n max_slots l)

  pub read-many : max_slots < n → record { answer = record { answer = refusal BadSize 0; steps = 0 }; slots = take (n * slot_width) ns; area = area } ≡ read_first layout bs ns n area mark
  unfolding read_first
  read-many l = rw (lt-leb n max_slots l)

-- what the call leaves at the front of the scratch
pub read-front : (zs rest : List ℕ) (k : ℕ) → length zs ≡ k → {a : ReadAnswer} {z : List ℕ} {e : ReadAll}
    → record { answer = a; slots = zs; area = z } ≡ e → record { answer = a; slots = take k (zs ++ rest); area = z } ≡ e
read-front zs rest k l {a} {z} r = ap (λ (s : List ℕ). record { answer = a; slots = s; area = z }) (take_at zs rest k l) ∙ r

-- ---- more slots than a table may have: number 1

read-over : (layout bs area : List ℕ) (ss : List SlotRecord) (mark : ℕ) → max_slots < length ss
    → record {
      answer = record { answer = refusal BadSize 0; steps = 0 };
      slots = slots_numbers ss;
      area = area;
    } ≡ read_all layout bs (slots_numbers ss) area mark
unfolding read read_steps reads
read-over layout bs area ss mark l = rw (beyond layout bs area ss l)

-- ---- the call over slots

module _ (layout bs ns ws area z : List ℕ) (ss ts : List SlotRecord) (mark : ℕ) (a : ReadAnswer) where
  pub read-loaded :
      record { answer = a; slots = take (length ss * slot_width) ws; area = z } ≡ read_first layout bs (filled (taken (length ss)) ss ns) (length ss) area mark
      → ts ≡ slots_from (take (taken (length ss) * slot_width) ws) ++ drop (taken (length ss)) ss
      → record { answer = a; slots = ts; area = z } ≡ read_slots layout bs ss area mark
  unfolding read_slots slots_from
  read-loaded r s = elim (dec_le (length ss) max_slots) [
    | yes l ↦ few l
    | no l ↦ many (lt_of_not-le l)
  ]
    where
      few : length ss ≤ max_slots → record { answer = a; slots = ts; area = z } ≡ with_slots (read_all layout bs (slots_numbers ss) area mark)
      few l =
          ap (λ (t : List SlotRecord). record { answer = a; slots = t; area = z }) whole
          ∙ ap with_slots (r ∙ sym (read-few layout bs _ area (length ss) mark l)
          ∙ ap (λ (m : List ℕ). read_all layout bs m area mark) (first-numbers ss ns l))
        where
          whole : ts ≡ slots_from (take (length ss * slot_width) ws)
          whole =
              s ∙ ap (λ (k : ℕ). slots_from (take (k * slot_width) ws) ++ drop k ss) (taken-few (length ss) l)
              ∙ ap (λ (t : List SlotRecord). slots_from (take (length ss * slot_width) ws) ++ t) (drop-length ss)
              ∙ append-nil (slots_from (take (length ss * slot_width) ws))

      many : max_slots < length ss → record { answer = a; slots = ts; area = z } ≡ with_slots (read_all layout bs (slots_numbers ss) area mark)
      many l = (λ i. record { answer = (same i).answer; slots = kept i; area = (same i).area }) ∙ ap with_slots (read-over layout bs area ss mark l)
        where
          same : ◌≡◌ {A = ReadAll} (record { answer = a; slots = take (length ss * slot_width) ws; area = z })
              (record {
                answer = record { answer = refusal BadSize 0; steps = 0 };
                slots = take (length ss * slot_width) (filled (taken (length ss)) ss ns);
                area = area;
              })
          same = r ∙ sym (read-many layout bs _ area (length ss) mark l)

          kept : ts ≡ slots_from (slots_numbers ss)
          kept = s ∙ ap (λ (k : ℕ). slots_from (take (k * slot_width) ws) ++ drop k ss) (taken-many (length ss) l) ∙ sym (slots-back ss)

-- of the scratch ms, after r slots are taken apart
module _ (layout bs ns ms ws area z : List ℕ) (ss ts : List SlotRecord) (mark r : ℕ) (a : ReadAnswer) where
  pub read-scratch :
      r ≡ taken (length ss) → ms ≡ filled r ss ns
      → record { answer = a; slots = take (length ss * slot_width) ws; area = z }
      ≡ read_first layout bs ms (length ss) area mark
      → ts ≡ slots_from (take (r * slot_width) ws) ++ drop r ss
      → record { answer = a; slots = ts; area = z } ≡ read_slots layout bs ss area mark
  read-scratch e g f s =
      read-loaded layout bs ns ws area z ss ts mark a
      (f ∙ ap (λ (m : List ℕ). read_first layout bs m (length ss) area mark) (g ∙ ap (λ (k : ℕ). filled k ss ns) e))
      (s ∙ ap (λ (k : ℕ). slots_from (take (k * slot_width) ws) ++ drop k ss) e)
