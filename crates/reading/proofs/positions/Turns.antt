-- Laws of one field of the run, on plain values: sizes, where the cursor comes to, and the values that follow.
use Prim.Native.Nat.{ℕ, suc, ◌+◌, ◌-◌, ◌*◌, ◌/◌, ◌%◌, ◌≤◌, ◌<◌}
use native.Mathlib.Nat.{div-le_self, zero-add, add-zero}
use native.Mathlib.Omega.{arith}
use mathlib.Core.Path.{◌≡◌, refl, sym, ap, ◌∙◌}
use mathlib.Core.Bool.{Bool, false}
use mathlib.Core.List.{List, [], ◌∷◌, ◌++◌, append_assoc, append-nil}
use borrow.Author.Tests.{le-leb, lt-leb}
use lib.Dec.{eqb}
use lib.ListN.{length, get_or, drop, length-append}
use lib.Seq.{drop-drop}
use Rattle.layout.specs.declared.Role.{Role}
use Rattle.layout.specs.declared.Role.TheVariants.{Data, Move}
use Rattle.layout.specs.declared.Motion.{Motion}
use Rattle.layout.specs.declared.Motion.TheVariants.{Skip, Back, Goto}
use Rattle.layout.specs.declared.Shape.{Shape}
use Rattle.layout.specs.declared.Shape.TheVariants.{Text, Digits, Integers, Reals}
use Rattle.layout.specs.declared.Count.{Count}
use Rattle.layout.specs.declared.Field.{Field}
use Rattle.layout.specs.Layout.{takes_slot, real_size}
use Rattle.layout.specs.Codes.{last_data, field_of, count_from, flag_unit, count_unit}
use Rattle.layout.specs.inside.Parsing.{shape_numbered, decoded}
use Rattle.layout.proofs.Decoded.{next_field, no_field}
use Rattle.record.specs.Table.{max_record, no_position, Value}
use Rattle.record.specs.declared.Cursor.{Cursor}
use Rattle.record.specs.inside.Cursor.{over}
use Rattle.record.specs.Geometry.{per_byte, bytes_for, items_in, moved_in, items_of}
use Rattle.record.specs.Reading.{values_from, positions_from, steps_from, value_at}
use Rattle.record.proofs.Bounds.{per-byte-small, product_small}
use Rattle.reading.specs.inside.positions.{moved_by}
use Rattle.layout.proofs.Numbered.{data-role, move-role}

-- ---- sizes

items-in-fit : (s : Shape) (left : ℕ) → items_in s left ≤ left * 8
items-in-fit (Text pad) left = omega arith
items-in-fit (Digits hex high) left = product_small left (per_byte hex) left 8 (omega arith) (per-byte-small hex).1
items-in-fit (Integers w big) left = omega (arith, div-le_self left w)
items-in-fit (Reals single big) left = omega (arith, div-le_self left (real_size single))

pub items-in-small : (s : Shape) (left : ℕ) → left ≤ max_record → items_in s left < 4294967296
items-in-small s left h = omega (arith, items-in-fit s left)

-- ---- the values from a field on

module _ (bs : List ℕ) (at : ℕ) (u : Bool) (n : Count) (fs : List Field) where
  module _ (s : Shape) {k b : ℕ} (items : k ≡ items_of s n (length bs - at)) (bytes : b ≡ bytes_for s k) where
    values-short : length bs - at < b → values_from bs at (record { role = Data s; unsigned = u; count = n } ∷ fs) ≡ []
    unfolding values_from
    values-short h = let l : length bs - at < bytes_for s (items_of s n (length bs - at)) = rw (← items, ← bytes) h in rw (lt-leb _ _ l)

    values-found : b ≤ length bs - at → values_from bs at (record { role = Data s; unsigned = u; count = n } ∷ fs) ≡ value_at bs at s u k ∷ values_from bs (at + b) fs
    unfolding values_from
    values-found h = let l : bytes_for s (items_of s n (length bs - at)) ≤ length bs - at = rw (← items, ← bytes) h in rw (le-leb _ _ l, bytes, items)

values_moved : (bs : List ℕ) (c : Cursor) → c.end ≡ length bs → (k : Role) (u : Bool) (n : Count) (fs : List Field) → takes_slot k ≡ false
    → values_from bs c.at (record { role = k; unsigned = u; count = n } ∷ fs) ≡ values_from bs (moved_by c k n).at fs
unfolding values_from moved_by
values_moved bs c size (Data s) u n fs e = let z : ◌≡◌ {A = ℕ} 0 1 = cc (e) in absurd (omega arith)
values_moved bs c size (Move m) u n fs e = rw size

-- and the positions

positions-found : (size at : ℕ) (s : Shape) (u : Bool) (n : Count) (fs : List Field) {k b : ℕ} → k ≡ items_of s n (size - at) → b ≡ bytes_for s k
    → positions_from size at (record { role = Data s; unsigned = u; count = n } ∷ fs) ≡ at ∷ positions_from size (at + b) fs
unfolding positions_from
positions-found size at s u n fs items bytes = rw (bytes, items)

positions-moved : (c : Cursor) (k : Role) (u : Bool) (n : Count) (fs : List Field) → takes_slot k ≡ false
    → positions_from c.end c.at (record { role = k; unsigned = u; count = n } ∷ fs) ≡ positions_from c.end (moved_by c k n).at fs
unfolding positions_from moved_by
positions-moved c (Data s) u n fs e = let z : ◌≡◌ {A = ℕ} 0 1 = cc (e) in absurd (omega arith)
positions-moved c (Move m) u n fs e = refl

-- and the steps

module _ (size at : ℕ) (u : Bool) (n : Count) (fs : List Field) where
  module _ (s : Shape) {k b : ℕ} (items : k ≡ items_of s n (size - at)) (bytes : b ≡ bytes_for s k) where
    steps-short : size - at < b → steps_from size at (record { role = Data s; unsigned = u; count = n } ∷ fs) ≡ 1
    unfolding steps_from
    steps-short h = let l : size - at < bytes_for s (items_of s n (size - at)) = rw (← items, ← bytes) h in rw (lt-leb _ _ l)

    steps-found : b ≤ size - at → steps_from size at (record { role = Data s; unsigned = u; count = n } ∷ fs) ≡ suc (steps_from size (at + b) fs)
    unfolding steps_from
    steps-found h = let l : bytes_for s (items_of s n (size - at)) ≤ size - at = rw (← items, ← bytes) h in rw (le-leb _ _ l, bytes, items)

steps-moved : (c : Cursor) (k : Role) (u : Bool) (n : Count) (fs : List Field) → takes_slot k ≡ false
    → steps_from c.end c.at (record { role = k; unsigned = u; count = n } ∷ fs) ≡ suc (steps_from c.end (moved_by c k n).at fs)
unfolding steps_from moved_by
steps-moved c (Data s) u n fs e = let z : ◌≡◌ {A = ℕ} 0 1 = cc (e) in absurd (omega arith)
steps-moved c (Move m) u n fs e = refl

moved-within : (m : Motion) (n : Count) (size at : ℕ) → at ≤ size → moved_in size m n at ≤ size
moved-within Skip n size at h = omega arith
moved-within Back n size at h = omega arith
moved-within Goto n size at h = omega arith

within : (k : Role) (n : Count) (c : Cursor) → c.at ≤ c.end → ((moved_by c k n).at ≤ c.end) × ((moved_by c k n).end ≡ c.end)
unfolding moved_by
within (Data s) n c h = (h, refl)
within (Move m) n c h = (moved-within m n c.end c.at h, refl)

-- the field of a code whose type takes a slot
data-field : (w : ℕ) → w % flag_unit ≤ last_data → field_of w ≡ record { role = Data (shape_numbered (w % flag_unit)); unsigned = eqb (w / flag_unit % 2) 1; count = count_from (w / count_unit) }
unfolding field_of
data-field w h = rw (data-role (w % flag_unit) h)

move-field : (w : ℕ) → last_data < w % flag_unit → takes_slot (field_of w).role ≡ false
unfolding field_of
move-field w h = move-role (w % flag_unit) h

-- ---- the run: c is its cursor, vs are the values so far, and what follows completes them

pub record Ran (bs : List ℕ) (fs : List Field) (i : ℕ) (c : Cursor) (vs : List Value) : Type 0 where
  pub size : c.end ≡ length bs
  pub inside : c.at ≤ c.end
  pub same : vs ++ values_from bs c.at (drop i fs) ≡ values_from bs 0 fs
  pub begin : drop (length vs) (positions_from c.end 0 fs) ≡ positions_from c.end c.at (drop i fs)
  pub stepped : i + steps_from c.end c.at (drop i fs) ≡ steps_from c.end 0 fs

-- the run is over after k steps
pub record Ended (bs : List ℕ) (fs : List Field) (vs : List Value) (k : ℕ) : Type 0 where
  pub values : vs ≡ values_from bs 0 fs
  pub steps : k ≡ steps_from (length bs) 0 fs

-- one more value, of a field that began at `at`; d is the cursor after it
pub record Found (bs : List ℕ) (fs : List Field) (i at : ℕ) (d : Cursor) (vs : List Value) (v : Value) : Type 0 where
  pub ran : Ran bs fs (i + 1) d (vs ++ (v ∷ []))
  pub begins : get_or (drop (length vs) (positions_from (length bs) 0 fs)) 0 no_position ≡ at

pub ran-start : {bs : List ℕ} (fs : List Field) {c : Cursor} → c ≡ record { at = 0; end = length bs } → Ran bs fs 0 c []
ran-start {bs} fs e = rw e (record { size = refl; inside = omega arith; same = refl; begin = refl; stepped = zero-add (steps_from (length bs) 0 fs) })

module _ {bs : List ℕ} (n : ℕ) (ws : List ℕ) {i : ℕ} {c : Cursor} {vs : List Value} (few : n ≤ length ws) (ran : Ran bs (decoded n ws) i c vs) where
  pub ran-end : n ≤ i → Ended bs (decoded n ws) vs i
  unfolding values_from steps_from
  ran-end l =
      record {
        values = sym (append-nil vs) ∙ (rw (no_field n ws few i l) at ran.same);
        steps = sym (add-zero i) ∙ (rw (no_field n ws few i l, ran.size) at ran.stepped);
      }

  module _ (l : i < n) where
    abbrev rest : List Field
    rest = drop (i + 1) (decoded n ws)

    on : {f : Field} → field_of (get_or ws i 0) ≡ f → vs ++ values_from bs c.at (f ∷ rest) ≡ values_from bs 0 (decoded n ws)
    on e = rw (← e, ← next_field n ws few i l) ran.same

    begin-on : {f : Field} → field_of (get_or ws i 0) ≡ f → drop (length vs) (positions_from c.end 0 (decoded n ws)) ≡ positions_from c.end c.at (f ∷ rest)
    begin-on e = rw (← e, ← next_field n ws few i l) ran.begin

    step-on : {f : Field} → field_of (get_or ws i 0) ≡ f → i + steps_from c.end c.at (f ∷ rest) ≡ steps_from c.end 0 (decoded n ws)
    step-on e = rw (← e, ← next_field n ws few i l) ran.stepped

    module _ (h : last_data < get_or ws i 0 % flag_unit) where
      abbrev f : Field
      f = field_of (get_or ws i 0)

      abbrev next : Cursor
      next = moved_by c f.role f.count

      still : next.end ≡ c.end
      still = (within f.role f.count c ran.inside).1

      after-move : Ran bs (decoded n ws) (i + 1) next vs
      after-move =
          let here : i + steps_from c.end c.at (f ∷ rest) ≡ steps_from c.end 0 (decoded n ws) = step-on refl in
          let one : steps_from c.end c.at (f ∷ rest) ≡ suc (steps_from c.end next.at rest) = steps-moved c f.role f.unsigned f.count rest (move-field (get_or ws i 0) h) in
          record {
            size = still ∙ ran.size;
            inside = rw still (within f.role f.count c ran.inside).0;
            same = rw (← values_moved bs c ran.size f.role f.unsigned f.count rest (move-field (get_or ws i 0) h)) (on refl);
            begin = rw (still, ← positions-moved c f.role f.unsigned f.count rest (move-field (get_or ws i 0) h)) (begin-on refl);
            stepped = rw still (omega arith);
          }

      pub ran-moved : {d : Cursor} → d ≡ moved_by c (field_of (get_or ws i 0)).role (field_of (get_or ws i 0)).count → Ran bs (decoded n ws) (i + 1) d vs
      ran-moved e = rw e after-move

    module _ (slot : get_or ws i 0 % flag_unit ≤ last_data) {k b : ℕ} (items : k ≡ items_of (shape_numbered (get_or ws i 0 % flag_unit)) (count_from (get_or ws i 0 / count_unit)) (c.end - c.at))
        (bytes : b ≡ bytes_for (shape_numbered (get_or ws i 0 % flag_unit)) k) where
      abbrev s : Shape
      s = shape_numbered (get_or ws i 0 % flag_unit)

      abbrev u : Bool
      u = eqb (get_or ws i 0 / flag_unit % 2) 1

      abbrev m : Count
      m = count_from (get_or ws i 0 / count_unit)

      -- the same of the record's own length
      counted : k ≡ items_of s m (length bs - c.at)
      counted = rw ran.size at items

      pub ran-short : c.end - c.at < b → Ended bs (decoded n ws) vs (i + 1)
      ran-short h =
          record {
            values = sym (append-nil vs) ∙ (rw (values-short bs c.at u m rest s counted bytes (rw ran.size at h)) at (on (data-field _ slot)));
            steps = rw (steps-short c.end c.at u m rest s items bytes h, ran.size) at (step-on (data-field _ slot));
          }

      module _ (h : b ≤ c.end - c.at) where
        placed : drop (length vs) (positions_from c.end 0 (decoded n ws)) ≡ c.at ∷ positions_from c.end (c.at + b) rest
        placed = begin-on (data-field _ slot) ∙ positions-found c.end c.at s u m rest items bytes

        behind : Ran bs (decoded n ws) (i + 1) (over c b) (vs ++ (value_at bs c.at s u k ∷ []))
        behind =
            record {
              size = ran.size;
              inside = omega (arith, ran.inside);
              stepped = omega (arith, step-on (data-field _ slot), steps-found c.end c.at u m rest s items bytes h);
              begin = rw length-append (sym (drop-drop 1 (length vs) (positions_from c.end 0 (decoded n ws))) ∙ ap (drop 1) placed);
              same = append_assoc vs _ _ ∙ (rw (values-found bs c.at u m rest s counted bytes (rw ran.size at h)) at (on (data-field _ slot)));
            }

        pub ran-found : {d : Cursor} → d ≡ over c b → Found bs (decoded n ws) i c.at d vs (value_at bs c.at (shape_numbered (get_or ws i 0 % flag_unit)) (eqb (get_or ws i 0 / flag_unit % 2) 1) k)
        ran-found e = record { ran = rw e behind; begins = rw (← ran.size, placed) }
