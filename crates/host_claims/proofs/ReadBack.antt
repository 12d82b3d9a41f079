-- Each call is the call on numbers, of which demand 3 is proved. The record is found by the length in the reply, the
-- first slots are the bytes of the numbers that are set, and the others are the bytes that were lent.
use Prim.Native.Nat.{ℕ, ◌+◌, ◌*◌, ◌≤◌, ◌<◌}
use native.Mathlib.Omega.{arith}
use mathlib.Core.Path.{◌≡◌, sym, ap, ◌∙◌, subst}
use mathlib.Core.Bool.{Bool, true, false}
use mathlib.Core.List.{List, [], ◌∷◌, ◌++◌, map}
use lib.ListN.{length, take, drop}
use Rattle.layout.specs.Layout.{slot_count}
use Rattle.record.specs.Bytes.{store_at}
use Rattle.record.specs.Table.{slot_width, number_limit, max_record, Value, shown, slot_numbers, value_bytes}
use Rattle.record.specs.Packing.{pack}
use Rattle.record.specs.Reading.{Read, put_into, with_steps, read, ReadAll, read_all}
use Rattle.record.proofs.Bytes.{all-below}
use Rattle.record.proofs.Readings.{length-slot-numbers}
use Rattle.record.proofs.Sizes.{Sized, sized}
use Rattle.runs.specs.Ends.{end_of}
use Rattle.runs.proofs.Calls.{T→true}
use Rattle.evolution.specs.Claim.{Layouts, ReadsBack, text_of, fields_by, slots_by, output_by, arguments_by, record_bytes, packed_by, record_by, cut_record, due, starts, carried_out}
use Rattle.evolution.proofs.ReadsBack.{demand3}
use Rattle.host.specs.Numbers.{numbers_in, numbers_bytes}
use Rattle.host.proofs.numbers.NumberLaws.{bytes-stored}
use Rattle.host.specs.Host.{reply_size, long_reply, ReadCall, pack_call, read_call}
use Rattle.host_record.specs.Reading.{steps_call}
use Rattle.host_claims.specs.Seen.{Slots, Lends, slots_in, result_in, filled_with}
use Rattle.host_claims.specs.ReadBack.{HostLent, argument_bytes, host_packing, host_reading, HostMeant, HostKeepsBack, HostDemand3}
use Rattle.host_claims.proofs.Laws.{pack-served, read-served, result-is, slots-first, numbers-first}
use Rattle.host_claims.proofs.Agreeing.{read-agrees}

-- ---- the slots that are set, as bytes

module _ (table : List ℕ) (s : Slots table) where
  set-bytes : (rows : List ℕ) (n : ℕ) → length rows ≡ slot_width * n
      → numbers_bytes (rows ++ drop (slot_width * n) (numbers_in table)) ≡ store_at table 0 (numbers_bytes rows)
  set-bytes rows n long =
      let at : 0 + length rows ≡ slot_width * n = omega arith in
      subst (λ (k : ℕ). numbers_bytes (rows ++ drop k (numbers_in table)) ≡ store_at table 0 (numbers_bytes rows)) at
      (bytes-stored table rows (omega (arith, s.whole)) (all-below table s.bytes))

module _ (l : Layouts) (packed layout : Bool) (c : HostLent) (h : HostMeant l packed layout c) where
  back : ReadsBack l
  back = demand3 l

  -- ---- the packing

  lends-arguments : (which : Bool) → Lends (argument_bytes l which c) c.pack_reply reply_size
  lends-arguments true = record { are-slots = h.arguments; reply-size = h.pack-reply }
  lends-arguments false = record {
    are-slots = slots-first (slot_count l.fields) c.arguments h.arguments;
    reply-size = h.pack-reply;
  }

  arguments-are : (which : Bool) → numbers_in (argument_bytes l which c) ≡ slots_by l which
  arguments-are true = h.are
  arguments-are false =
      numbers-first (slot_count l.fields) c.arguments ∙ ap (take (slot_width * slot_count l.fields)) h.are

  as-packed : host_packing l packed c ≡ pack_call (packed_by l packed)
  as-packed =
      pack-served (argument_bytes l packed c) c.pack_reply (text_of l packed) l.area (output_by l packed)
      (lends-arguments packed)
      ∙ ap (λ (ns : List ℕ). pack_call (pack (text_of l packed) ns l.area (output_by l packed))) (arguments-are packed)

  -- the record has as many bytes as the last field's end says
  long : length (record_bytes (arguments_by l packed)) ≡ end_of (fields_by l packed)
  long = ap length (sym (back.records packed)) ∙ back.ends packed

  packs : host_packing l packed c ≡ filled_with (output_by l packed) (record_bytes (arguments_by l packed))
  unfolding pack_call
  packs = as-packed ∙ ap pack_call (back.packings packed) ∙ rw long

  -- ---- the reading

  abbrev values : List Value
  values = due l layout c.cut

  -- the record is found by the length in the reply
  ends-within : (which : Bool) → end_of (fields_by l which) ≤ max_record
  ends-within true =
      let all : Sized (length l.new) (length l.slots) (length l.new_output) (length l.area) =
      sized (T→true _ l.new-sizes) in
      omega (arith, l.new-room, all.whole)
  ends-within false =
      let all : Sized (length l.old) (length (slots_by l false)) (length l.old_output) (length l.area) =
      sized (T→true _ l.old-sizes) in
      omega (arith, l.old-room, all.whole)

  short : (packed_by l packed).answer.first < number_limit
  short = rw (back.packings packed) (omega (arith, ends-within packed))

  record_is : result_in (host_packing l packed c) ≡ record_by l packed
  record_is = ap result_in as-packed ∙ result-is (packed_by l packed) short

  -- the call on numbers, of any record
  numbers_all : List ℕ → ReadAll
  numbers_all bs = read_all (text_of l layout) bs (numbers_in c.table) c.values c.mark

  left : Read
  left = read (text_of l layout) (cut_record l packed c.cut) (numbers_in c.table) c.values c.mark

  as_read : host_reading l packed layout c
      ≡ steps_call c.table (with_steps left (carried_out c.cut 0 (fields_by l layout)))
  unfolding left numbers_all
  as_read =
      read-served c.table c.read_reply (text_of l layout) (take c.cut (result_in (host_packing l packed c)))
      c.values c.mark h.lends
      ∙ ap (λ (bs : List ℕ). steps_call c.table (numbers_all (take c.cut bs))) record_is
      ∙ ap (λ (k : ℕ). steps_call c.table (with_steps left k))
      (back.steps packed layout c.cut (numbers_in c.table) c.values c.mark h.reads)

  left_is : left ≡ put_into (numbers_in c.table) c.values c.mark (starts l) values
  unfolding left
  left_is = back.readings packed layout c.cut (numbers_in c.table) c.values c.mark h.reads

  -- what it leaves, as a C program sees it
  seen_as : (k : ℕ)
      → steps_call c.table (with_steps (put_into (numbers_in c.table) c.values c.mark (starts l) values) k)
      ≡ record {
        returned = 0;
        slots = store_at c.table 0 (numbers_bytes (slot_numbers c.mark (starts l) values));
        area = store_at c.values c.mark (value_bytes values);
        reply = numbers_bytes (0 ∷ length values ∷ (c.mark + length (value_bytes values)) ∷ k ∷ []);
      }
  unfolding steps_call read_call long_reply put_into
  seen_as k =
      let rows : List ℕ = slot_numbers c.mark (starts l) values in
      let long : length rows ≡ slot_width * length values = length-slot-numbers c.mark (starts l) values in
      rw (set-bytes c.table h.lends.are-slots rows (length values) long)

  shows : let r = host_reading l packed layout c in
      map (shown r.area) (take (length values) (slots_in r.slots)) ≡ values
  unfolding left steps_call read_call
  shows =
      let slots : numbers_in (host_reading l packed layout c).slots ≡ left.slots =
      (read-agrees (text_of l layout) (take c.cut (result_in (host_packing l packed c))) c.table c.values c.mark
      c.read_reply h.lends).same
      ∙ ap
      (λ (bs : List ℕ). (read (text_of l layout) (take c.cut bs) (numbers_in c.table) c.values c.mark).slots)
      record_is in
      let area : (host_reading l packed layout c).area ≡ left.area = ap (λ (r : ReadCall). r.area) as_read in
      rw (slots, area) (back.shows packed layout c.cut (numbers_in c.table) c.values c.mark h.reads)

  keeps-back : HostKeepsBack l packed layout c
  keeps-back = record {
    packs = packs;
    reads =
        as_read
        ∙ ap (λ (r : Read). steps_call c.table (with_steps r (carried_out c.cut 0 (fields_by l layout)))) left_is
        ∙ seen_as (carried_out c.cut 0 (fields_by l layout));
    shows = shows;
  }

pub host-demand3 : HostDemand3
host-demand3 = keeps-back
