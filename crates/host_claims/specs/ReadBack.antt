-- Demand 3 (document 01, "What demand 3 reads back") of curlew_pack and curlew_read: a record that one layout packed,
-- cut anywhere, and read by the other. The proof is in proofs/ReadBack.antt.
use Rattle.std.specs.Prelude.{ℕ, ◌+◌, ◌≡◌, Bool, true, false, List, [], ◌∷◌, map, length, take}
use Rattle.layout.specs.Layout.{slot_count}
use Rattle.record.specs.Bytes.{store_at}
use Rattle.record.specs.Table.{shown, slot_numbers, value_bytes}
use Rattle.evolution.specs.Claim.{Layouts, Reading, text_of, fields_by, output_by, arguments_by, record_bytes, due, starts, carried_out}
use Rattle.host.specs.Numbers.{numbers_in, numbers_bytes}
use Rattle.host.specs.Host.{reply_size, long_reply_size, PackCall, ReadCall}
use Rattle.host_record.specs.Packing.{curlew_pack}
use Rattle.host_record.specs.Reading.{curlew_read}
use Rattle.host_claims.specs.Seen.{Slots, Lends, first_slots, slots_in, result_in, filled_with}

-- ---- the calls

-- What the calls are lent beside the layouts, their buffers and the area: the arguments, as slot bytes; the two
-- replies; the cut; the table, area and mark of the reading.
pub record HostLent : Type 0 where
  pub arguments : List ℕ
  pub pack_reply : List ℕ
  pub cut : ℕ
  pub table : List ℕ
  pub values : List ℕ
  pub mark : ℕ
  pub read_reply : List ℕ

-- the arguments of a packing: all slots for the new layout, the first of them for the old one
abbrev pub argument_bytes : Layouts → Bool → HostLent → List ℕ
argument_bytes l true c = c.arguments
argument_bytes l false c = first_slots (slot_count l.fields) c.arguments

abbrev pub host_packing : Layouts → Bool → HostLent → PackCall
host_packing l packed c =
    curlew_pack (text_of l packed) (argument_bytes l packed c) l.area (output_by l packed) c.pack_reply

-- the first bytes of the record that was packed are read
abbrev pub host_reading : Layouts → Bool → Bool → HostLent → ReadCall
host_reading l packed layout c =
    curlew_read (text_of l layout) (take c.cut (result_in (host_packing l packed c))) c.table c.values c.mark
    c.read_reply

-- ---- the claim

-- The calls are such as demand 3 speaks of: the numbers in the argument bytes are its arguments, and the reading is one
-- of its readings over the numbers in the table.
pub record HostMeant (l : Layouts) (packed layout : Bool) (c : HostLent) : Type 0 where
  pub arguments : Slots c.arguments
  pub are : numbers_in c.arguments ≡ l.slots
  pub pack-reply : length c.pack_reply ≡ reply_size
  pub lends : Lends c.table c.read_reply long_reply_size
  pub reads : Reading l packed layout c.cut (numbers_in c.table) c.values c.mark

pub record HostKeepsBack (l : Layouts) (packed layout : Bool) (c : HostLent) : Type 0 where
  -- the packing returns 0, its reply is 0, the end of the last field and 0, and the record lies at the front of the
  -- buffer
  pub packs : host_packing l packed c ≡ filled_with (output_by l packed) (record_bytes (arguments_by l packed))
  -- the reading returns 0; its reply is 0, the number of values due, the place after them, and the steps; the first
  -- slots are those of the values due, from the mark on, and the area holds them there; every other byte is as lent
  pub reads :
      host_reading l packed layout c
      ≡ record {
        returned = 0;
        slots = store_at c.table 0 (numbers_bytes (slot_numbers c.mark (starts l) (due l layout c.cut)));
        area = store_at c.values c.mark (value_bytes (due l layout c.cut));
        reply =
            numbers_bytes
            (0 ∷ length (due l layout c.cut) ∷ (c.mark + length (value_bytes (due l layout c.cut)))
            ∷ carried_out c.cut 0 (fields_by l layout) ∷ []);
      }
  -- each set slot, taken out of its bytes, shows its value
  pub shows :
      map (shown (host_reading l packed layout c).area)
      (take (length (due l layout c.cut)) (slots_in (host_reading l packed layout c).slots))
      ≡ due l layout c.cut

-- DEMAND 3 for a C program
abbrev pub HostDemand3 : Type 0
HostDemand3 =
    (l : Layouts) (packed layout : Bool) (c : HostLent) → HostMeant l packed layout c → HostKeepsBack l packed layout c
