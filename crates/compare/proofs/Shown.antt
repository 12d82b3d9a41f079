-- What a table shows that values were put into.
use Rattle.std.specs.Prelude.{if◌then◌else◌}
use Prim.Native.Nat.{ℕ, zero, suc, ◌+◌, ◌*◌, ◌≤◌, ◌<◌}
use native.Mathlib.Nat.{mul-one, not-suc-le-zero}
use native.Mathlib.Omega.{arith}
use mathlib.Core.Path.{◌≡◌, refl, sym, ap, ap₂, ◌∙◌}
use mathlib.Core.Bool.{Bool, true, false}
use mathlib.Core.List.{List, [], ◌∷◌, ◌++◌, map, append_assoc}
use lib.Dec.{eqb}
use lib.ListN.{length, take, drop, length-append}
use lib.Seq.{take_at, drop-drop, drop_at}
use Rattle.record.specs.Bytes.{part, store_at, join}
use Rattle.record.specs.Table.{string, integer_size, slot_width, slots_of, item_size, Value, integer_bytes, area_bytes, slot_numbers, value_bytes}
use Rattle.record.specs.Packing.{next_slot}
use Rattle.record.specs.Reading.{put_into}
use Rattle.record.specs.Slots.{value_end}
use Rattle.record.proofs.NumberLaws.{length-big_endian}
use Rattle.record.proofs.Readings.{length-slot-numbers}
use Rattle.record.proofs.Stores.{length-store_at}
use Rattle.reading.specs.inside.Tables.{TableRoom}
use Rattle.compare.specs.inside.Shown.{bytes_shown, shown_bytes, Shows}

-- an item of a string is a byte of the area, and an integer eight
pub area-size : (v : Value) → length (area_bytes v) ≡ length v.items * item_size v.kind
unfolding area_bytes
area-size v = go (eqb v.kind string)
  where
    go : (t : Bool) → length (if t then v.items else integer_bytes v.items) ≡ length v.items * (if t then 1 else integer_size)
    go true = sym (mul-one (length v.items))
    go false = length-big_endian integer_size v.items

table-shows : (vs : List Value) (start : ℕ) (at area rest more : List ℕ) → drop start area ≡ value_bytes vs ++ rest
    → map (bytes_shown area) (take (length vs) (slots_of (slot_numbers start at vs ++ more))) ≡ map area_bytes vs
unfolding slot_numbers value_bytes slots_of join
table-shows [] start at area rest more e = refl
table-shows (v ∷ vs) start at area rest more e =
    let tail : List ℕ = value_bytes vs ++ rest in
    let n : ℕ = length (area_bytes v) in
    let here : drop start area ≡ area_bytes v ++ tail = e ∙ append_assoc (area_bytes v) (value_bytes vs) rest in
    let later : drop (start + n) area ≡ tail = sym (drop-drop n start area) ∙ ap (drop n) here ∙ drop_at (area_bytes v) tail n refl in
    let one : part area start (length v.items * item_size v.kind) ≡ area_bytes v = rw (← area-size v) (ap (take n) here ∙ take_at (area_bytes v) tail n refl) in
    ap₂ (λ (x : List ℕ) (xs : List (List ℕ)). x ∷ xs) one (table-shows vs (start + n) (drop 1 at) area rest more later)

table-inside : (vs : List Value) (start : ℕ) (at more : List ℕ) (i : ℕ) → i < length vs
    → value_end (next_slot (drop i (slots_of (slot_numbers start at vs ++ more)))) ≤ start + length (value_bytes vs)
unfolding slot_numbers value_bytes slots_of join
table-inside [] start at more i h = absurd (not-suc-le-zero h)
table-inside (v ∷ vs) start at more zero h = rw (← area-size v, length-append (area_bytes v) (value_bytes vs)) (omega arith)
table-inside (v ∷ vs) start at more (suc i) h =
    let l : length (area_bytes v ++ value_bytes vs) ≡ length (area_bytes v) + length (value_bytes vs) = length-append (area_bytes v) (value_bytes vs) in
    omega (arith, table-inside vs (start + length (area_bytes v)) (drop 1 at) more i (omega arith))

module _ (vs : List Value) (slots area at : List ℕ) (room : TableRoom vs slots area 0) where
  pub put-shows : shown_bytes (put_into slots area 0 at vs).slots (put_into slots area 0 at vs).area (length vs) ≡ map area_bytes vs
  unfolding put_into shown_bytes
  put-shows = table-shows vs 0 at (store_at area 0 (value_bytes vs)) (drop (0 + length (value_bytes vs)) area) (drop (slot_width * length vs) slots) refl

  pub put_holds : Shows (put_into slots area 0 at vs).slots (put_into slots area 0 at vs).area (length vs)
  unfolding put_into
  put_holds =
      let long : length (store_at area 0 (value_bytes vs)) ≡ length area = length-store_at area 0 (value_bytes vs) room.room in
      let rest : List ℕ = drop (slot_width * length vs) slots in
      record {
        lent = rw (length-append, length-slot-numbers) (omega arith);
        values = λ i h. omega (arith, table-inside vs 0 at rest i h, room.room, long);
        limit = omega (arith, long, room.limit);
      }
