-- What the pass keeps: the values so far, and the table and area that hold them.
use Prim.Native.Nat.{ℕ, suc, ◌+◌, ◌*◌, ◌≤◌}
use native.Mathlib.Nat.{add_assoc, add-zero, zero-add}
use native.Mathlib.Omega.{arith}
use mathlib.Core.Path.{◌≡◌, refl, sym, ap, ◌∙◌}
use mathlib.Core.List.{List, [], ◌∷◌, ◌++◌}
use lib.ListN.{length, get_or, drop, length-append}
use lib.Seq.{drop-drop}
use Rattle.layout.specs.declared.Field.{Field}
use Rattle.record.specs.declared.Cursor.{Cursor}
use Rattle.record.specs.Bytes.{store_at, join}
use Rattle.record.specs.Table.{slot_width, no_position, Value, area_bytes, slot_numbers, value_bytes}
use Rattle.record.specs.Packing.{accepted}
use Rattle.record.specs.Reading.{values_from, positions_from, steps_from, put_into, with_steps}
use Rattle.record.proofs.Stores.{length-store_at, store-none, store-next}
use Rattle.record.proofs.Readings.{length-slot-numbers}
use Rattle.record.specs.declared.ReadAnswer.{ReadAnswer}
use Rattle.reading.proofs.measure.Run.{value-bytes-append, value-bytes-one}
use Rattle.reading.specs.inside.put.{PutRoom, PutAs}
use Rattle.reading.specs.inside.Tables.{TableRoom}
use Rattle.reading.proofs.positions.Turns.{Ran, Ended, ran-start, Found}

-- the numbers of slots, of values one after the other
pub slot-numbers-append : (start : ℕ) (at : List ℕ) (vs ws : List Value)
    → slot_numbers start at (vs ++ ws) ≡ slot_numbers start at vs ++ slot_numbers (start + length (value_bytes vs)) (drop (length vs) at) ws
unfolding slot_numbers value_bytes join
slot-numbers-append start at [] ws = ap (λ (n : ℕ). slot_numbers n at ws) (sym (add-zero start))
slot-numbers-append start at (v ∷ vs) ws =
    let e : start + length (area_bytes v) + length (value_bytes vs) ≡ start + length (area_bytes v ++ value_bytes
    vs) = rw length-append (add_assoc start (length (area_bytes v)) (length (value_bytes vs))) in
    let s : 1 + length vs ≡ suc (length vs) = omega arith in
    ap (λ (r : List ℕ). v.kind ∷ start ∷ length v.items ∷ get_or at 0 no_position ∷ r)
    (slot-numbers-append (start + length (area_bytes v)) (drop 1 at) vs ws
    ∙ ap (λ (n : ℕ). slot_numbers (start + length (area_bytes v)) (drop 1 at) vs ++ slot_numbers n (drop (length vs) (drop 1 at)) ws) e
    ∙ ap (λ (ps : List ℕ). slot_numbers (start + length (area_bytes v)) (drop 1 at) vs ++ slot_numbers
    (start + length (area_bytes v ++ value_bytes vs)) ps ws) (drop-drop (length vs) 1 at ∙ ap (λ (n : ℕ). drop n at)
    s))

-- of one value
slot-numbers-one : (start : ℕ) (at : List ℕ) (v : Value) {p : ℕ} → get_or at 0 no_position ≡ p → slot_numbers start at (v ∷ []) ≡ slot_numbers start (p ∷ []) (v ∷ [])
unfolding slot_numbers
slot-numbers-one start at v e = rw e

-- ---- the pass

pub record Written (bs : List ℕ) (fs : List Field) (slots₀ area₀ : List ℕ) (mark i : ℕ) (c : Cursor) (n place : ℕ) (slots area : List ℕ) : Type 0 where
  pub vs : List Value
  pub ran : Ran bs fs i c vs
  pub count : n ≡ length vs
  pub next : place ≡ mark + length (value_bytes vs)
  pub table : slots ≡ store_at slots₀ 0 (slot_numbers mark (positions_from (length bs) 0 fs) vs)
  pub values : area ≡ store_at area₀ mark (value_bytes vs)
  pub rows : length slots ≡ length slots₀
  pub room : length area ≡ length area₀

pub written_start : {bs : List ℕ} (fs : List Field) (slots area : List ℕ) (mark : ℕ) {c : Cursor} → c ≡ record { at = 0; end = length bs } → Written bs fs slots area mark 0 c 0 mark slots area
unfolding value_bytes join slot_numbers
written_start fs slots area mark e =
    record {
      vs = [];
      ran = ran-start fs e;
      count = refl;
      next = sym (add-zero mark);
      table = sym (store-none slots 0);
      values = sym (store-none area mark);
      rows = refl;
      room = refl;
    }

-- the values so far take no more than all of them
front-few : (vs ws all : List Value) → vs ++ ws ≡ all → (length vs ≤ length all) × (length (value_bytes vs) ≤ length (value_bytes all))
front-few vs ws all e =
    let l : length vs + length ws ≡ length all = sym (length-append vs ws) ∙ ap length e in
    let b : length (value_bytes vs) + length (value_bytes ws) ≡ length (value_bytes all) =
    sym (length-append (value_bytes vs) (value_bytes ws)) ∙ ap length (sym (value-bytes-append vs ws)) ∙ ap (λ (x : List Value). length (value_bytes x)) e in
    (omega arith, omega arith)

module _ {bs : List ℕ} {fs : List Field} {slots₀ area₀ : List ℕ} {mark : ℕ} (all : TableRoom (values_from bs 0 fs) slots₀ area₀ mark)
    {i : ℕ} {c : Cursor} {n place : ℕ} {slots area : List ℕ} (w : Written bs fs slots₀ area₀ mark i c n place slots area) where
  pub written-done : {r : ReadAnswer} {k : ℕ} → Ended bs fs w.vs k → r ≡ record { answer = accepted n place; steps = k }
      → record { answer = r; slots = slots; area = area } ≡ with_steps (put_into slots₀ area₀ mark (positions_from (length bs) 0 fs) (values_from bs 0 fs)) (steps_from (length bs) 0 fs)
  unfolding put_into
  written-done {r} {k} e q =
      let vs : List Value = values_from bs 0 fs in
      let a : r ≡ record { answer = accepted (length vs) (mark + length (value_bytes vs)); steps = steps_from (length bs) 0 fs } = q ∙ rw (w.count, w.next, e.values, e.steps) in
      let t : slots ≡ slot_numbers mark (positions_from (length bs) 0 fs) vs ++ drop (slot_width * length vs) slots₀ = w.table ∙ rw (e.values, length-slot-numbers, zero-add) in
      let v : area ≡ store_at area₀ mark (value_bytes vs) = w.values ∙ rw e.values in
      rw (a, t, v)

  module _ {d : Cursor} where
    pub written-moved : Ran bs fs (i + 1) d w.vs → Written bs fs slots₀ area₀ mark (i + 1) d n place slots area
    written-moved ran =
        record {
          vs = w.vs;
          ran = ran;
          count = w.count;
          next = w.next;
          table = w.table;
          values = w.values;
          rows = w.rows;
          room = w.room;
        }

    module _ (v : Value) (found : Found bs fs i c.at d w.vs v) where
      grown : length (value_bytes (w.vs ++ (v ∷ []))) ≡ length (value_bytes w.vs) + length (area_bytes v)
      grown = ap length (value-bytes-append w.vs (v ∷ [])) ∙ rw (value-bytes-one, length-append)

      longer : length (w.vs ++ (v ∷ [])) ≡ length w.vs + 1
      longer = length-append w.vs (v ∷ [])

      fits : (length (w.vs ++ (v ∷ [])) ≤ length (values_from bs 0 fs)) × (length (value_bytes (w.vs ++ (v ∷ []))) ≤ length (value_bytes (values_from bs 0 fs)))
      fits = front-few (w.vs ++ (v ∷ [])) (values_from bs d.at (drop (i + 1) fs)) (values_from bs 0 fs) found.ran.same

      pub written-room : PutRoom v slots n area place
      written-room =
          record {
            row = omega (arith, longer, fits.0, all.rows, w.rows, w.count);
            table = omega (arith, all.table, w.rows);
            room = omega (arith, grown, fits.1, all.room, w.room, w.next);
            limit = omega (arith, all.limit, w.room);
          }

      pub written-more : {r at : ℕ} {slots' area' : List ℕ} → at ≡ c.at → PutAs v at slots n area place r slots' area' → Written bs fs slots₀ area₀ mark (i + 1) d (n + 1) r slots' area'
      written-more {r} {at} {slots'} {area'} here put =
          let p : PutAs v c.at slots n area place r slots' area' = rw here at put in
          let ps : List ℕ = positions_from (length bs) 0 fs in
          let numbers : slot_numbers mark ps (w.vs ++ (v ∷ [])) ≡ slot_numbers mark ps w.vs ++ slot_numbers place (c.at ∷ []) (v ∷ []) =
          slot-numbers-append mark ps w.vs (v ∷ []) ∙ rw (← w.next, slot-numbers-one place (drop (length w.vs) ps) v found.begins) in
          let bytes : value_bytes (w.vs ++ (v ∷ [])) ≡ value_bytes w.vs ++ area_bytes v = value-bytes-append w.vs (v ∷ []) ∙ rw value-bytes-one in
          let len : length (slot_numbers mark ps (w.vs ++ (v ∷ []))) ≡ slot_width * length (w.vs ++ (v ∷ [])) = length-slot-numbers mark ps (w.vs ++ (v ∷ [])) in
          let table : slots' ≡ store_at slots₀ 0 (slot_numbers mark ps (w.vs ++ (v ∷ []))) =
          store-next {to = slot_width * n} slots₀ 0 (slot_numbers mark ps w.vs) (slot_numbers place (c.at ∷ [])
          (v ∷ [])) w.table (omega (arith, length-slot-numbers mark ps w.vs, w.count)) p.table numbers
          (omega (arith, fits.0, all.rows)) in
          let values : area' ≡ store_at area₀ mark (value_bytes (w.vs ++ (v ∷ []))) = store-next area₀ mark
          (value_bytes w.vs) (area_bytes v) w.values w.next p.values bytes
          (omega (arith, fits.1, all.room)) in
          record {
            vs = w.vs ++ (v ∷ []);
            ran = found.ran;
            count = omega (arith, longer, w.count);
            next = omega (arith, grown, p.next, w.next);
            table = table;
            values = values;
            rows = ap length table ∙ length-store_at slots₀ 0 (slot_numbers mark ps (w.vs ++ (v ∷ []))) (omega (arith, fits.0, all.rows));
            room = ap length values ∙ length-store_at area₀ mark (value_bytes (w.vs ++ (v ∷ []))) (omega (arith, fits.1, all.room));
          }
