-- Demand 3 (document 01, "What demand 3 reads back") of the calls over slot records (01, Slot tables),
-- `pack_slots` and `read_slots`: a record that one layout packed, cut anywhere, and read by the other. The proof is in
-- proofs/ReadBack.antt.
use Rattle.std.specs.Prelude.{ℕ, ◌+◌, ◌≡◌, Bool, true, false, List, ◌++◌, map, length, take, drop}
use Rattle.layout.specs.Layout.{slot_count}
use Rattle.record.specs.Bytes.{store_at}
use Rattle.record.specs.Table.{Value, shown, slot_numbers, value_bytes}
use Rattle.record.specs.Packing.{accepted, Packed, pack}
use Rattle.runs.specs.Ends.{record_of}
use Rattle.evolution.specs.Claim.{Layouts, Reading, text_of, fields_by, output_by, packed_whole, due, starts, carried_out}
use Rattle.slots.specs.declared.SlotRecord.{SlotRecord}
use Rattle.slots.specs.Slots.{slots_numbers, slots_from}
use Rattle.slots.specs.Reading.{ReadSlots, read_slots}

-- ---- the calls

-- What the calls are lent beside the layouts, their buffers and the area: the arguments, the cut, and the table, area
-- and mark of the reading.
pub record SlotsLent : Type 0 where
  pub arguments : List SlotRecord
  pub cut : ℕ
  pub table : List SlotRecord
  pub values : List ℕ
  pub mark : ℕ

-- the arguments of a packing: all slots for the new layout, the first of them for the old one
abbrev pub arguments_of : Layouts → Bool → SlotsLent → List SlotRecord
arguments_of l true c = c.arguments
arguments_of l false c = take (slot_count l.fields) c.arguments

-- what `pack_slots` leaves, by its contract
abbrev pub packing_slots : Layouts → Bool → SlotsLent → Packed
packing_slots l packed c = pack (text_of l packed) (slots_numbers (arguments_of l packed c)) l.area (output_by l packed)

-- what `read_slots` leaves of the first bytes of that record, by its contract
abbrev pub reading_slots : Layouts → Bool → Bool → SlotsLent → ReadSlots
reading_slots l packed layout c =
    read_slots (text_of l layout) (take c.cut (record_of (packing_slots l packed c))) c.table c.values c.mark

-- what a slot record shows in an area
abbrev pub shown_by_slot : List ℕ → SlotRecord → Value
shown_by_slot area s = shown area (record { kind = s.kind; start = s.start; len = s.length; position = s.position })

-- ---- the claim

-- the calls are such as demand 3 speaks of
pub record SlotsMeant (l : Layouts) (packed layout : Bool) (c : SlotsLent) : Type 0 where
  pub arguments : slots_numbers c.arguments ≡ l.slots
  pub reads : Reading l packed layout c.cut (slots_numbers c.table) c.values c.mark

pub record SlotsKeepBack (l : Layouts) (packed layout : Bool) (c : SlotsLent) : Type 0 where
  -- the packing is accepted, with every byte of the record and of its buffer
  pub packs : packing_slots l packed c ≡ packed_whole l packed
  -- The reading answers 0, the number of values due, the place after them, and the steps. The first slots are those of
  -- the values due, from the mark on, and the area holds them there; every other slot and byte is as lent.
  pub reads :
      reading_slots l packed layout c
      ≡ record {
        answer = record {
          answer = accepted (length (due l layout c.cut)) (c.mark + length (value_bytes (due l layout c.cut)));
          steps = carried_out c.cut 0 (fields_by l layout);
        };
        slots =
            slots_from (slot_numbers c.mark (starts l) (due l layout c.cut))
            ++ drop (length (due l layout c.cut)) c.table;
        area = store_at c.values c.mark (value_bytes (due l layout c.cut));
      }
  -- each set slot shows its value
  pub shows :
      let r = reading_slots l packed layout c in
      map (shown_by_slot r.area) (take (length (due l layout c.cut)) r.slots) ≡ due l layout c.cut

-- DEMAND 3 over slot records
abbrev pub SlotsDemand3 : Type 0
SlotsDemand3 =
    (l : Layouts) (packed layout : Bool) (c : SlotsLent) → SlotsMeant l packed layout c
    → SlotsKeepBack l packed layout c
