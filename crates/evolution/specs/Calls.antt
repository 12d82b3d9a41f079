-- A packing and a reading one after the other, as `read_back` makes them, and what demand 3 says of the two.
use Rattle.std.specs.Prelude.{ℕ, ◌<◌, ◌≡◌, Bool, List, map, length, get_or, take, eqb, if◌then◌else◌}
use Rattle.record.specs.declared.ReadAnswer.{ReadAnswer}
use Rattle.record.specs.Table.{slots_of, no_position, shown}
use Rattle.record.specs.Slots.{slot_at}
use Rattle.record.specs.Packing.{Packed, pack}
use Rattle.record.specs.Reading.{put_into, ReadAll, read_all}
use Rattle.runs.specs.Ends.{record_of}
use Rattle.evolution.specs.Claim.{Layouts, Reading, text_of, fields_by, slots_by, output_by, packed_whole, due, starts, carried_out}

-- all that the two calls are lent: the packer's four runs, the cut, and what the reader has beside the record
pub record LentToBoth : Type 0 where
  pub written_by : List ℕ
  pub slots : List ℕ
  pub area : List ℕ
  pub output : List ℕ
  pub cut : ℕ
  pub read_by : List ℕ
  pub table : List ℕ
  pub values : List ℕ
  pub mark : ℕ

-- all that the two calls leave: the last answer, the packer's output, and the reader's table and area
pub record PackedAndRead : Type 0 where
  pub answer : ReadAnswer
  pub output : List ℕ
  pub table : List ℕ
  pub values : List ℕ

abbrev pub packing_first : LentToBoth → Packed
packing_first c = pack c.written_by c.slots c.area c.output

abbrev pub then_read : Packed → ReadAll → PackedAndRead
then_read p r = record { answer = r.answer; output = p.output; table = r.slots; values = r.area }

-- The two calls: where the packer refuses, nothing is read; else its record, cut, is read.
unfoldable pub packed_and_read : LentToBoth → PackedAndRead
packed_and_read c =
    let p = packing_first c in
    then_read p
    (if eqb p.answer.number 0
    then read_all c.read_by (take c.cut (record_of p)) c.table c.values c.mark
    else record { answer = record { answer = p.answer; steps = 0 }; slots = c.table; area = c.values })

-- ---- demand 3 of the two calls

-- the calls are such as the claim speaks of: one of its packings, and one of its readings of that record
pub record Meant (l : Layouts) (packed layout : Bool) (c : LentToBoth) : Type 0 where
  pub writer : c.written_by ≡ text_of l packed
  pub arguments : c.slots ≡ slots_by l packed
  pub items : c.area ≡ l.area
  pub buffer : c.output ≡ output_by l packed
  pub reader : c.read_by ≡ text_of l layout
  pub reading : Reading l packed layout c.cut c.table c.values c.mark

-- the parts of the claim, of what the calls leave
pub record KeepsBack (l : Layouts) (packed layout : Bool) (c : LentToBoth) (x : PackedAndRead) : Type 0 where
  -- the packing was accepted and left, with every byte of the output, what the claim says
  pub packings : packing_first c ≡ packed_whole l packed
  pub output : x.output ≡ (packed_whole l packed).output
  -- answer, table and area are those of the values due
  pub readings : record { answer = x.answer.answer; slots = x.table; area = x.values }
      ≡ put_into c.table c.values c.mark (starts l) (due l layout c.cut)
  -- each set slot shows its value
  pub shows : map (shown x.values) (take (length (due l layout c.cut)) (slots_of x.table))
      ≡ due l layout c.cut
  -- each set slot has the position at which its field begins
  pub positions : (i : ℕ) → i < length (due l layout c.cut)
      → (slot_at x.table i).position ≡ get_or (starts l) i no_position
  -- the steps are those due
  pub steps : x.answer.steps ≡ carried_out c.cut 0 (fields_by l layout)

-- THE EFFECT OF A CALL of `read_back`, and that it keeps demand 3
pub record ReadsBackAs (c : LentToBoth) (x : PackedAndRead) : Type 0 where
  pub effect : x ≡ packed_and_read c
  pub demand3 : (l : Layouts) (packed layout : Bool) → Meant l packed layout c → KeepsBack l packed layout c x
