-- The proof of M-107: the reading puts the values of all fields into the table, their slots are arguments that the
-- packer takes, and what it stores of them are the bytes that were read. So the values determine the record.
use Prim.Native.Nat.{ℕ, ◌+◌, ◌*◌, ◌/◌}
use native.Mathlib.Omega.{arith}
use mathlib.Core.Path.{◌≡◌, sym, ap, ◌∙◌}
use mathlib.Core.Bool.{true, false}
use mathlib.Core.List.{List, [], ◌∷◌, ◌++◌, map, append_assoc}
use lib.ListN.{length, take, drop, length-append, length-drop}
use lib.Seq.{take_all, drop_at, length-take-le}
use lib.Dec.{T, ltb, ltb→lt}
use Rattle.layout.specs.Refusals.{ok}
use Rattle.layout.specs.Layout.{fields_of, slot_count}
use Rattle.layout.proofs.Laws.{AllSound, packed-reads}
use Rattle.record.specs.Bytes.{store_at}
use Rattle.record.specs.Table.{slots_of, slot_width, Value, shown, slot_numbers, value_bytes}
use Rattle.record.specs.Geometry.{sizes_fit}
use Rattle.record.specs.Packing.{accepted, pack, pack_effect, packed, filled, arguments_fit}
use Rattle.record.specs.Reading.{Read, put_into, values_from, positions_from}
use Rattle.record.proofs.Bytes.{All, both}
use Rattle.record.proofs.Stores.{length-store_at}
use Rattle.record.proofs.Tables.{length-slots}
use Rattle.record.proofs.Readings.{length-slot-numbers}
use Rattle.runs.proofs.Joined.{joined, packed-joined}
use Rattle.runs.proofs.Joined.{forward-filled}
use Rattle.runs.proofs.Shown.{shows-put}
use Rattle.runs.proofs.Calls.{T→true, packs-by, read_by}
use Rattle.lossless.specs.Claim.{Layout, are_bytes, Archived, reading_of, packing_of, shown_by, LosesNothing}
use Rattle.lossless.proofs.Fields.{Byte}
use Rattle.lossless.proofs.Run.{AllLossless, all-lossless, are-forward, restored, Again, again-from}

all-bytes : (bs : List ℕ) → T (are_bytes bs) → All Byte bs
unfolding are_bytes
all-bytes [] h = tt
all-bytes (b ∷ bs) h = let (x, y) = both (ltb b 256) (are_bytes bs) h in (ltb→lt b 256 x, all-bytes bs y)

module _ (l : Layout) where
  reads-too : (fields_of false l.text ≡ ok l.fields) × AllSound l.fields
  reads-too = packed-reads l.text l.fields l.has-fields

  each : AllLossless l.fields
  each = all-lossless l.fields l.is-lossless reads-too.1

  module _ (r : Archived l) where
    abbrev values : List Value
    values = values_from r.bytes 0 l.fields

    again : Again r.bytes 0 l.fields values
    again = again-from r.bytes (all-bytes r.bytes r.are-bytes) l.fields each 0 (omega (arith, r.is-full))

    abbrev at : List ℕ
    at = positions_from (length r.bytes) 0 l.fields

    -- ---- the reading

    after : Read
    after = put_into r.slots r.area r.mark at values

    reading : reading_of l r ≡ after
    unfolding after
    reading =
        read_by l.text r.bytes r.slots r.area r.mark l.fields reads-too.0 (T→true _ r.read-sizes) (omega (arith, r.slot-for-each)) r.area-room

    sets-all : (reading_of l r).answer ≡ accepted (slot_count l.fields) (r.mark + length (value_bytes values))
    unfolding after put_into
    sets-all = ap (λ (x : Read). x.answer) reading ∙ ap (λ (n : ℕ). accepted n (r.mark + length (value_bytes values))) again.count

    -- what it leaves has the sizes of what was lent

    size-slots : length after.slots ≡ length r.slots
    unfolding after put_into
    size-slots =
        let width : length (slot_numbers r.mark at values) ≡ slot_width * length values = length-slot-numbers r.mark at values in
        let left : length (drop (slot_width * length values) r.slots) ≡ _ = length-drop (slot_width * length values) r.slots in
        length-append (slot_numbers r.mark at values) (drop (slot_width * length values) r.slots)
        ∙ omega (arith, again.count, r.slot-for-each, length-slots r.slots)

    size-area : length after.area ≡ length r.area
    unfolding after put_into
    size-area = length-store_at r.area r.mark (value_bytes values) r.area-room

    count : length (slots_of after.slots) ≡ slot_count l.fields
    count = length-slots after.slots ∙ ap (λ (n : ℕ). n / slot_width) size-slots ∙ sym (length-slots r.slots) ∙ r.slot-for-each

    shows : shown_by l r ≡ values
    unfolding after
    shows =
        ap (λ (x : Read). map (shown x.area) (slots_of x.slots)) reading
        ∙ ap (map (shown after.area)) (sym (take_all (length values) (slots_of after.slots) (omega (arith, count, again.count))))
        ∙ shows-put r.slots r.area r.mark at values again.proper (omega (arith, r.area-room))

    -- ---- the packing

    served : (arguments_fit after.area 0 (slots_of after.slots) l.fields ≡ ok tt) × (joined (filled after.area (slots_of after.slots) l.fields) ≡ restored l.fields values)
    unfolding after put_into
    served =
        let bs : List ℕ = value_bytes values in
        let rest : List ℕ = drop (r.mark + length bs) r.area in
        let stands : drop r.mark (store_at r.area r.mark bs) ≡ bs ++ rest =
        ap (drop r.mark) (append_assoc (take r.mark r.area) bs rest)
        ∙ drop_at (take r.mark r.area) (bs ++ rest) r.mark (length-take-le r.mark r.area (omega (arith, r.area-room))) in
        again.fits at (store_at r.area r.mark bs) rest (drop (slot_width * length values) r.slots) r.mark 0
        stands (omega (arith, r.area-room, length-store_at r.area r.mark bs r.area-room))

    same : packed (filled after.area (slots_of after.slots) l.fields) ≡ r.bytes
    same =
        packed-joined (filled after.area (slots_of after.slots) l.fields) (forward-filled after.area l.fields (are-forward l.fields each) (slots_of after.slots))
        ∙ served.1
        ∙ again.restores

    sizes : sizes_fit l.text after.slots r.output after.area ≡ true
    sizes = rw (size-slots, size-area) (T→true _ r.pack-sizes)

    gives_back : packing_of l r ≡ pack_effect r.output (ok r.bytes)
    unfolding pack
    gives_back =
        ap (λ (x : Read). pack l.text x.slots x.area r.output) reading
        ∙ ap (pack_effect r.output)
        (packs-by l.text after.slots after.area r.output l.fields l.has-fields sizes count served.0 (rw same r.output-room) ∙ ap ok same)

  reads : (r : Archived l) → reading_of l r ≡ put_into r.slots r.area r.mark (positions_from (length r.bytes) 0 l.fields) (values_from r.bytes 0 l.fields)
  unfolding after
  reads r = reading r

  -- the values make the record
  tells-apart : (r s : Archived l) → shown_by l r ≡ shown_by l s → r.bytes ≡ s.bytes
  tells-apart r s e = sym (again r).restores ∙ ap (restored l.fields) (sym (shows r) ∙ e ∙ shows s) ∙ (again s).restores

  pub loses-nothing : LosesNothing l
  loses-nothing = record { reads = reads; sets-all = sets-all; gives_back = gives_back; tells-apart = tells-apart }
