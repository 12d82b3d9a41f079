-- The writing pass on plain values: one field, and what its loop keeps.
use Prim.Native.Nat.{ℕ, ◌+◌, ◌*◌, ◌/◌, ◌%◌, ◌≤◌, ◌<◌}
use native.Mathlib.Omega.{arith}
use mathlib.Core.Path.{◌≡◌, refl, sym, ◌∙◌, subst}
use mathlib.Core.List.{List, ◌∷◌}
use lib.ListN.{length, get_or, drop}
use lib.Seq.{drop-drop}
use Rattle.layout.specs.declared.Role.{Role}
use Rattle.layout.specs.declared.Role.TheVariants.{Data, Move}
use Rattle.layout.specs.declared.Motion.{Motion}
use Rattle.layout.specs.declared.Shape.{Shape}
use Rattle.layout.specs.declared.Count.{Count}
use Rattle.layout.specs.declared.Field.{Field}
use Rattle.layout.specs.Refusals.{ok, ◌>>=◌}
use Rattle.layout.specs.Layout.{takes_slot, to_nat, slots_taken}
use Rattle.layout.specs.Codes.{last_data, count_from, field_of, flag_unit, count_unit}
use Rattle.layout.specs.inside.Parsing.{shape_numbered, decoded, FieldOf}
use Rattle.layout.proofs.Laws.{bound, ok-inj}
use Rattle.layout.proofs.Decoded.{code_shape, code-count, code-slotless, no_field}
use Rattle.record.specs.declared.Cursor.{Cursor}
use Rattle.record.specs.Bytes.{store_at}
use Rattle.record.specs.declared.slots.Slot.{Slot}
use Rattle.record.specs.Table.{slots_of, slot_width, shown}
use Rattle.record.specs.Geometry.{amount, bytes_for}
use Rattle.record.specs.Packing.{stored, argument_fits, next_slot}
use Rattle.record.specs.Slots.{slot_at}
use Rattle.record.specs.inside.Cursor.{origin, past}
use Rattle.pack_check.specs.inside.measuring.{advance, field_checked, arguments_checked, HasRoom}
use Rattle.pack_store.specs.inside.stores.{Storable}
use Rattle.pack_store.specs.inside.writing.{put, written, Movable, Puttable, Writable}
use Rattle.record.proofs.SlotLaws.{next-slot}
use Rattle.pack_check.proofs.measuring.Bounds.{advance-within}
use Rattle.pack_check.proofs.arguments.ArgumentLaws.{checked-argument}
use Rattle.pack_store.proofs.stores.StoreLaws.{amounts-enough}
use Rattle.pack_check.proofs.measuring.MeasureLaws.{stepped-advance, Standing, standing-none, field-here, standing-next, standing-slot, slot-here}
use Rattle.pack_store.proofs.writing.RunLaws.{room-ok, room-step, room-end}

-- ---- one field

-- a code's field by the number of its type
pub puttable-data : (area ns : List ℕ) (k w : ℕ) (c : Cursor) (size : ℕ) → Puttable area ns k c (field_of w).role (field_of w).count size → w % flag_unit ≤ last_data
    → Puttable area ns k c (Data (shape_numbered (w % flag_unit))) (count_from (w / count_unit)) size
puttable-data area ns k w c size p h = rw (code_shape w h, code-count w) at p

pub no_value : (w : ℕ) (f : Field) (s : Shape) → f ≡ field_of w → last_data < w % flag_unit → f.role ≡ Data s → ⊥
no_value w f s e h q =
    let none : slots_taken f ≡ 0 = rw e (code-slotless w h) in
    let one : slots_taken f ≡ 1 = rw q in
    omega arith

module _ (area ns : List ℕ) (k : ℕ) (c : Cursor) (n : Count) (size : ℕ) where
  module _ (s : Shape) (p : Puttable area ns k c (Data s) n size) where
    storable-slot : Storable area s (amount n (slot_at ns k).len) (slot_at ns k) c.at size
    unfolding field_checked
    storable-slot =
        let t = slot_at ns k in
        let (d, e, l) = room-ok (argument_fits area s n k t >>= (λ _. ok (advance c (Data s) n t.len))) size p.room in
        let (u, e₁, e₂) = bound (argument_fits area s n k t) (λ _. ok (advance c (Data s) n t.len)) d e in
        let a : advance c (Data s) n t.len ≡ d = ok-inj e₂ in
        let f = checked-argument area s n k t e₁ in
        let h : (advance c (Data s) n t.len).end ≤ size = subst (λ (x : Cursor). x.end ≤ size) (sym a) l in
        record {
          inside = f.inside;
          kind = f.kind;
          amounts = amounts-enough s n t.len f.amounts;
          digits = f.digits;
          role = p.ready.role_fits;
          room = omega arith;
          limit = p.limit;
        }

    module _ (a : Slot) (same : a ≡ slot_at ns k) (items : ℕ) (e : items ≡ amount n a.len) where
      pub storable : Storable area s items a c.at size
      storable = rw e (subst (λ (t : Slot). Storable area s (amount n t.len) t c.at size) (sym same) storable-slot)

      pub put-data : (bytes : ℕ) → bytes ≡ bytes_for s items → (r : Cursor) → r ≡ past c bytes
          → (out out' : List ℕ) → out' ≡ store_at out c.at (stored s items (shown area a).items)
          → (r ≡ advance c (Data s) n (slot_at ns k).len) × (out' ≡ put area (slot_at ns k) out c (Data s) n)
      unfolding put
      put-data bytes b r q out out' o =
          subst (λ (t : Slot). (r ≡ advance c (Data s) n t.len) × (out' ≡ put area t out c (Data s) n)) same (q ∙ rw (b, e), o ∙ rw e)

  pub movable : (m : Motion) → Puttable area ns k c (Move m) n size → Movable c m n size
  unfolding field_checked
  movable m p = record { within = p.within; room = p.room }

-- ---- the loop

pub record Writing (area ws ns lent out : List ℕ) (i k : ℕ) (c : Cursor) : Type 0 where
  pub standing : Standing ws ns i k
  pub within : c.at ≤ c.end
  pub long : length out ≡ length lent
  pub room : HasRoom (arguments_checked area k (drop k (slots_of ns)) (drop i (decoded (length ws) ws)) c) (length lent)
  pub same : written area (drop k (slots_of ns)) (drop i (decoded (length ws) ws)) c out ≡ written area (slots_of ns) (decoded (length ws) ws) origin lent

put-here : (area ns out : List ℕ) (k : ℕ) (c : Cursor) (role : Role) (n : Count) → slot_width * (k + to_nat (takes_slot role)) ≤ length ns
    → (advance c role n (next_slot (drop k (slots_of ns))).len ≡ advance c role n (slot_at ns k).len)
    × (put area (next_slot (drop k (slots_of ns))) out c role n ≡ put area (slot_at ns k) out c role n)
unfolding put
put-here area ns out k c (Data s) n h = let e = next-slot ns k (omega arith) in (rw e, rw e)
put-here area ns out k c (Move m) n h = (refl, refl)

module _ (area ws ns lent : List ℕ) (fine : Writable area ws ns (length lent)) where
  pub writing-none : Writing area ws ns lent lent 0 0 origin
  writing-none = record { standing = standing-none ws ns fine.prepared; within = omega arith; long = refl; room = fine.room; same = refl }

  module _ (out : List ℕ) (i k : ℕ) (c : Cursor) (w : Writing area ws ns lent out i k c) where
    pub writing-done : length ws ≤ i → out ≡ written area (slots_of ns) (decoded (length ws) ws) origin lent
    unfolding written
    writing-done l = rw (no_field (length ws) ws (omega arith) i l) at w.same

    module _ (l : i < length ws) (f : Field) (e : FieldOf (get_or ws i 0) f) where
      slot : slot_width * (k + slots_taken f) ≤ length ns
      slot = standing-slot ws ns i k fine.prepared w.standing l f e.same

      here : drop i (decoded (length ws) ws) ≡ f ∷ drop (i + 1) (decoded (length ws) ws)
      here = field-here ws ns i k fine.prepared w.standing l f e.same

      -- the step that the field takes, and the room after it
      stepping : (d : Cursor) × (field_checked area k (slot_at ns k) c f.role f.count ≡ ok d)
          × HasRoom (arguments_checked area (k + slots_taken f) (drop (k + slots_taken f) (slots_of ns)) (drop (i + 1) (decoded (length ws) ws)) d) (length lent)
      unfolding arguments_checked
      stepping =
          let s = slot-here area ns k c f.role f.count slot in
          room-step (field_checked area k (slot_at ns k) c f.role f.count) (arguments_checked area (k + slots_taken f)
          (drop (k + slots_taken f) (slots_of ns)) (drop (i + 1) (decoded (length ws) ws))) (length lent)
          (rw (← drop-drop (slots_taken f) k (slots_of ns), ← s) (rw here at w.room))

      pub writing-ready : Puttable area ns k c f.role f.count (length out)
      writing-ready =
          let (d, q, r) = stepping in
          let end : d.end ≤ length lent = room-end area (drop (i + 1) (decoded (length ws) ws)) (k + slots_taken f) (drop (k + slots_taken f) (slots_of ns)) d (length lent) r in
          let now : c.end ≤ length lent = room-end area (drop i (decoded (length ws) ws)) k (drop k (slots_of ns)) c (length lent) w.room in
          record {
            ready = record { role_fits = e.role; count_fits = e.count; slot = slot; near = omega (arith, w.within, fine.limit) };
            within = w.within;
            room = rw (q, w.long) end;
            limit = omega (arith, w.long, fine.limit);
          }

      pub writing-next : (d : Cursor) (out' : List ℕ) → (d ≡ advance c f.role f.count (slot_at ns k).len) × (out' ≡ put area (slot_at ns k) out c f.role f.count)
          → length out' ≡ length out → (taken : ℕ) → taken ≡ slots_taken f → Writing area ws ns lent out' (i + 1) (k + taken) d
      unfolding written
      writing-next d out' p long taken t =
          let (d', q, r) = stepping in
          let a : d' ≡ d = stepped-advance area k (slot_at ns k) c f.role f.count d' q ∙ sym p.0 in
          let h = put-here area ns out k c f.role f.count slot in
          let s : written area (drop (slots_taken f) (drop k (slots_of ns))) (drop (i + 1) (decoded (length ws) ws))
          (advance c f.role f.count (next_slot (drop k (slots_of ns))).len)
          (put area (next_slot (drop k (slots_of ns))) out c f.role f.count)
          ≡ written area (slots_of ns) (decoded (length ws) ws) origin lent = rw here at w.same in
          rw t
          (record {
            standing = standing-next ws ns i k fine.prepared w.standing l f e.same;
            within = rw p.0 (advance-within c f.role f.count (slot_at ns k).len w.within);
            long = long ∙ w.long;
            room = rw (← a) r;
            same = rw (p.0, p.1, ← h.0, ← h.1, ← drop-drop (slots_taken f) k (slots_of ns)) s;
          })
