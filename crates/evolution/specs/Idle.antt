-- The idle programs that document 01 names (How much each contract says) break demand 3 by itself. Every line below is
-- about what some program left of calls on one small instance, and asks no more of it than the demand. The proof is in
-- proofs/read_back/Idle.antt.
use Rattle.std.specs.Prelude.{ℕ, ◌≤◌, ◌≡◌, true, drop, replicate, leb, if◌then◌else◌}
use Rattle.record.specs.Table.{slot_width}
use Rattle.evolution.specs.Claim.{Layouts, text_of, slots_by, output_by}
use Rattle.evolution.specs.Pair.{pair, other}
use Rattle.evolution.specs.Calls.{LentToBoth, PackedAndRead, Meant, KeepsBack}

-- ---- the calls

-- `a03 xS` packs "ab" and an integer, -2 with the arguments of `pair` and -3 with those of `other`. The record of six
-- bytes is cut at k and read by the same layout, from the mark 1 on, into two slots and an area that hold nines.
abbrev pub call : Layouts → ℕ → LentToBoth
call l k = record {
  written_by = text_of l true;
  slots = slots_by l true;
  area = l.area;
  output = output_by l true;
  cut = k;
  read_by = text_of l true;
  table = replicate 8 9;
  values = replicate 12 9;
  mark = 1;
}

-- what a program left of such a call meets the demand
abbrev pub Keeps : Layouts → ℕ → PackedAndRead → Type 0
Keeps l k x = KeepsBack l true true (call l k) x

-- the slots that are due: `a03` ends at byte 3, and `S` after the `x` at byte 6
abbrev pub slots_due : ℕ → ℕ
slots_due k = if leb 6 k then 2 else if leb 3 k then 1 else 0

-- ---- what no program that keeps the demand does

pub record IdleProgramsFail : Type 0 where
  -- (the demand speaks of these calls, whole and cut anywhere)
  pub speaks : (k : ℕ) → k ≤ 6 → Meant pair true true (call pair k) × Meant other true true (call other k)
  -- it refuses the call
  pub refuses :
      (k : ℕ) → k ≤ 6 → (x : PackedAndRead) → (x.answer.answer.number ≡ 0 → ⊥) → Keeps pair k x → ⊥
  -- its answer is fixed: the same for the whole record as for one that lost its last byte
  pub fixed_answer : (x y : PackedAndRead) → x.answer ≡ y.answer → Keeps pair 6 x → Keeps pair 5 y → ⊥
  -- it writes nothing: the output, the table or the area is as it was lent
  pub writes-no-record : (x : PackedAndRead) → x.output ≡ (call pair 6).output → Keeps pair 6 x → ⊥
  pub sets-no-slot : (x : PackedAndRead) → x.table ≡ (call pair 6).table → Keeps pair 6 x → ⊥
  pub stores-no-value : (x : PackedAndRead) → x.values ≡ (call pair 6).values → Keeps pair 6 x → ⊥
  -- it handles the first field and invents the rest, in packing or in reading: what it leaves does not depend on the
  -- second argument
  pub invents-bytes : (x y : PackedAndRead) → x.output ≡ y.output → Keeps pair 6 x → Keeps other 6 y → ⊥
  pub invents-value : (x y : PackedAndRead) → x.values ≡ y.values → Keeps pair 6 x → Keeps other 6 y → ⊥
  -- it sets the first field alone: the second slot is as it was lent
  pub first-field-only :
      (x : PackedAndRead) → drop slot_width x.table ≡ drop slot_width (call pair 6).table → Keeps pair 6 x → ⊥
  -- the count that it reports is invented: at each cut, any number but that of the slots due
  pub invented-count :
      (k n : ℕ) → k ≤ 6 → (n ≡ slots_due k → ⊥) → (x : PackedAndRead) → x.answer.answer.first ≡ n
      → Keeps pair k x → ⊥
