-- The measuring pass on plain values: one field, and what its loop keeps.
use Rattle.std.specs.Prelude.{if◌then◌else◌}
use Prim.Native.Nat.{ℕ, suc, ◌+◌, ◌*◌, ◌/◌, ◌%◌, ◌≤◌, ◌<◌}
use native.Mathlib.Nat.{zero-add}
use native.Mathlib.Omega.{arith}
use mathlib.Core.Path.{◌≡◌, refl, sym, ap, ◌∙◌}
use mathlib.Core.Bool.{Bool, true, false, ◌&&◌, not}
use mathlib.Core.List.{List, ◌∷◌}
use lib.Dec.{eqb, leb}
use lib.ListN.{length, get_or, drop}
use lib.Seq.{drop-drop}
use Rattle.layout.specs.declared.Role.{Role}
use Rattle.layout.specs.declared.Role.TheVariants.{Data, Move}
use Rattle.layout.specs.declared.Shape.{Shape}
use Rattle.layout.specs.declared.Count.{Count}
use Rattle.layout.specs.declared.Field.{Field}
use Rattle.layout.specs.declared.Refusal.{Refusal}
use Rattle.layout.specs.declared.Refusal.TheVariants.{NotSet, BadSlot, WrongKind, BadList, BadDigit, BadReal}
use Rattle.layout.specs.Refusals.{Result, ok, refused, ◌>>=◌, demand}
use Rattle.layout.specs.Layout.{slot_count, takes_slot, to_nat, slots_taken}
use Rattle.layout.specs.Codes.{last_data, count_from, field_of, flag_unit, count_unit}
use Rattle.layout.specs.inside.Parsing.{shape_numbered, decoded, FieldOf, FitRole, FitCount}
use Rattle.layout.proofs.Laws.{bound, ok-inj}
use Rattle.layout.proofs.Decoded.{code_shape, code-count, next_field, no_field}
use Rattle.record.specs.declared.Cursor.{Cursor}
use Rattle.record.specs.declared.slots.Slot.{Slot}
use Rattle.record.specs.Table.{max_kind, shown, slots_of, slot_width, number_limit}
use Rattle.record.specs.Geometry.{amount}
use Rattle.record.specs.Packing.{kind_fits, amount_fits, digits_fit, reals_fit, argument_fits, next_slot}
use Rattle.record.specs.inside.Slots.{inside_area}
use Rattle.std.specs.declared.option.Option.{Option}
use Rattle.std.specs.declared.option.Option.TheVariants.{Some}
use Rattle.std.specs.declared.result.Result.TheVariants.{Ok, Err}
use Rattle.layout.specs.declared.Refused.{Refused}
use Rattle.record.specs.Slots.{slot_at}
use Rattle.pack_check.specs.inside.arguments.{answer_of}
use Rattle.pack_check.specs.inside.quick_check.{Sound}
use Rattle.record.specs.inside.Cursor.{origin, past}
use Rattle.pack_check.specs.inside.measuring.{advance, field_checked, arguments_checked, Prepared, StepReady, measured_of, Measures}
use Rattle.record.proofs.SlotLaws.{next-slot}
use Rattle.record.proofs.Bounds.{bytes_small}
use Rattle.record.proofs.Moves.{amount-small}
use Rattle.pack_check.proofs.measuring.Bounds.{advance-within, advance-small}

-- ---- one field

-- a code's field by the number of its type

module _ (ns : List ℕ) (k w : ℕ) (c : Cursor) where
  pub ready-data : StepReady ns k c (field_of w).role (field_of w).count → w % flag_unit ≤ last_data → StepReady ns k c (Data (shape_numbered (w % flag_unit))) (count_from (w / count_unit))
  ready-data r h = rw (code_shape w h, code-count w) at r

  -- an argument that passes the quick test is refused by no line, and its field takes the bytes that the test tells
  pub quick-next : (area : List ℕ) → w % flag_unit ≤ last_data → (a : Slot) → a ≡ slot_at ns k → (n : Count) → n ≡ count_from (w / count_unit)
      → (q : Option ℕ) → Sound q area (shape_numbered (w % flag_unit)) n a → (bytes : ℕ) → q ≡ Some bytes
      → Ok (past c bytes) ≡ answer_of (field_checked area k (slot_at ns k) c (field_of w).role (field_of w).count)
  unfolding field_checked
  quick-next area h a same n e q s bytes p = let f = s.fits bytes p in rw (code_shape w h, code-count w, ← e, ← same, f.1 k, f.0)

-- the bytes that the quick test tells are few
pub quick-few : (area : List ℕ) (s : Shape) (n : Count) (a : Slot) (q : Option ℕ) → Sound q area s n a → (bytes : ℕ) → q ≡ Some bytes → FitRole (Data s) → FitCount n → a.len < number_limit
    → bytes < 68719476736
quick-few area s n a q h bytes p f m l = omega (arith, (h.fits bytes p).0, amount-small n a.len m, bytes_small s (amount n a.len) f)

-- what an answer says of the step
pub turn-next : {A : Type 0} (o : Result A) (d : A) → Ok d ≡ answer_of o → o ≡ ok d
turn-next (ok x) d e = cc
turn-next (refused w p) d e = let z : ◌≡◌ {A = ℕ} 0 1 = cc in absurd (omega arith)

pub turn-stop : {A : Type 0} (o : Result A) (x : Refused) → Err x ≡ answer_of o → o ≡ refused x.why x.place
turn-stop (ok c) x e = let z : ◌≡◌ {A = ℕ} 0 1 = cc in absurd (omega arith)
turn-stop (refused w p) x e = let same : x ≡ record { why = w; place = p } = cc in rw same refl

pub stepped-advance : (area : List ℕ) (k : ℕ) (t : Slot) (c : Cursor) (role : Role) (n : Count) (d : Cursor) → field_checked area k t c role n ≡ ok d → d ≡ advance c role n t.len
unfolding field_checked
stepped-advance area k t c (Data s) n d e =
    let (u, e₁, e₂) = bound (argument_fits area s n k t) (λ _. ok (advance c (Data s) n t.len)) d e in
    sym (ok-inj e₂)
stepped-advance area k t c (Move m) n d e = sym (ok-inj e)

-- a refusal's place is the slot's number
refused-at : {A : Type 0} (t : Bool) (line : Refusal) (k : ℕ) (f : Unit {0} → Result A) (why : Refusal) (place : ℕ) → (demand t line k >>= f) ≡ refused why place
    → (f tt ≡ refused why place → place ≡ k) → place ≡ k
refused-at true line k f why place e g = g e
refused-at false line k f why place e g = cc

demand-at : (t : Bool) (line : Refusal) (k : ℕ) (why : Refusal) (place : ℕ) → demand t line k ≡ refused why place → place ≡ k
demand-at true line k why place e = let z : ◌≡◌ {A = ℕ} 0 1 = cc in absurd (omega arith)
demand-at false line k why place e = cc

argument-place : (area : List ℕ) (s : Shape) (n : Count) (k : ℕ) (a : Slot) (why : Refusal) (place : ℕ) → argument_fits area s n k a ≡ refused why place → place ≡ k
unfolding argument_fits
argument-place area s n k a why place e =
    refused-at (not (eqb a.kind 0)) NotSet k _ why place e
    (λ e₁. refused-at (leb a.kind max_kind && inside_area area a) BadSlot k _ why place e₁
    (λ e₂. refused-at (kind_fits s a.kind) WrongKind k _ why place e₂
    (λ e₃. refused-at (amount_fits s n a.len) BadList k _ why place e₃
    (λ e₄. refused-at (digits_fit s (amount n a.len) (shown area a).items) BadDigit k _ why place e₄
    (λ e₅. demand-at (reals_fit s (amount n a.len) (shown area a).items) BadReal k why place e₅)))))

pub stepped-place : (area : List ℕ) (k : ℕ) (t : Slot) (c : Cursor) (role : Role) (n : Count) (why : Refusal) (place : ℕ) → field_checked area k t c role n ≡ refused why place → place ≡ k
unfolding field_checked
stepped-place area k t c (Data s) n why place e = argument-place area s n k t why place (passed (argument_fits area s n k t) e)
  where
    passed : (o : Result (Unit {0})) → (o >>= (λ _. ok (advance c (Data s) n t.len))) ≡ refused why place → o ≡ refused why place
    passed (ok u) e = let z : ◌≡◌ {A = ℕ} 0 1 = cc in absurd (omega arith)
    passed (refused w p) e = cc
stepped-place area k t c (Move m) n why place e = let z : ◌≡◌ {A = ℕ} 0 1 = cc in absurd (omega arith)

-- ---- where a loop stands: in front of field i and slot k

pub record Standing (ws ns : List ℕ) (i k : ℕ) : Type 0 where
  pub few : i ≤ length ws
  pub slots : k + slot_count (drop i (decoded (length ws) ws)) ≡ length ns / slot_width

pub standing-none : (ws ns : List ℕ) → Prepared ws ns → Standing ws ns 0 0
standing-none ws ns s = record { few = omega arith; slots = zero-add (slot_count (decoded (length ws) ws)) ∙ s.slots }

slots-step : (f : Field) (fs : List Field) → slot_count (f ∷ fs) ≡ slots_taken f + slot_count fs
unfolding slot_count
slots-step f fs = step (takes_slot f.role)
  where
    step : (t : Bool) → (if t then suc (slot_count fs) else slot_count fs) ≡ to_nat t + slot_count fs
    step true = omega arith
    step false = omega arith

-- a step reads its slot only where it takes one
pub slot-here : (area ns : List ℕ) (k : ℕ) (c : Cursor) (role : Role) (n : Count) → slot_width * (k + to_nat (takes_slot role)) ≤ length ns
    → field_checked area k (next_slot (drop k (slots_of ns))) c role n ≡ field_checked area k (slot_at ns k) c role n
unfolding field_checked
slot-here area ns k c (Data s) n h = rw (next-slot ns k (omega arith))
slot-here area ns k c (Move m) n h = refl

module _ (ws ns : List ℕ) (i k : ℕ) (served : Prepared ws ns) (at : Standing ws ns i k) (l : i < length ws) (f : Field) (e : f ≡ field_of (get_or ws i 0)) where
  pub field-here : drop i (decoded (length ws) ws) ≡ f ∷ drop (i + 1) (decoded (length ws) ws)
  field-here = next_field (length ws) ws (omega arith) i l ∙ ap (λ (g : Field). g ∷ drop (i + 1) (decoded (length ws) ws)) (sym e)

  pub standing-next : Standing ws ns (i + 1) (k + slots_taken f)
  standing-next =
      let s : slot_count (drop i (decoded (length ws) ws)) ≡ slots_taken f + slot_count (drop (i + 1) (decoded (length ws) ws)) = ap slot_count field-here ∙ slots-step f (drop (i + 1) (decoded (length ws) ws)) in
      record { few = omega arith; slots = omega (arith, at.slots) }

  pub standing-slot : slot_width * (k + slots_taken f) ≤ length ns
  standing-slot = omega (arith, standing-next.slots)

-- ---- the loop

pub record Measuring (area ws ns : List ℕ) (i k : ℕ) (c : Cursor) : Type 0 where
  pub standing : Standing ws ns i k
  pub within : c.at ≤ c.end
  pub near : c.end ≤ i * 68719476736
  pub same : arguments_checked area k (drop k (slots_of ns)) (drop i (decoded (length ws) ws)) c ≡ arguments_checked area 0 (slots_of ns) (decoded (length ws) ws) origin

module _ (area ws ns : List ℕ) (served : Prepared ws ns) where
  pub measuring-none : Measuring area ws ns 0 0 origin
  measuring-none = record { standing = standing-none ws ns served; within = omega arith; near = omega arith; same = refl }

  module _ (i k : ℕ) (c : Cursor) (m : Measuring area ws ns i k c) where
    pub measuring-done : length ws ≤ i → Measures (arguments_checked area 0 (slots_of ns) (decoded (length ws) ws) origin) (Ok c.end)
    unfolding arguments_checked
    measuring-done l =
        let e : ok c ≡ arguments_checked area 0 (slots_of ns) (decoded (length ws) ws) origin = rw (no_field (length ws) ws (omega arith) i l) at m.same in
        record { same = ap measured_of e; small = tt }

    module _ (l : i < length ws) (f : Field) (e : FieldOf (get_or ws i 0) f) where
      pub measuring-ready : StepReady ns k c f.role f.count
      measuring-ready =
          record {
            role_fits = e.role;
            count_fits = e.count;
            slot = standing-slot ws ns i k served m.standing l f e.same;
            near = omega (arith, m.within, m.near, served.room);
          }

      onward : (field_checked area k (slot_at ns k) c f.role f.count >>= arguments_checked area (k + slots_taken f) (drop (k + slots_taken f) (slots_of ns)) (drop (i + 1) (decoded (length ws) ws)))
          ≡ arguments_checked area 0 (slots_of ns) (decoded (length ws) ws) origin
      unfolding arguments_checked
      onward =
          let s = slot-here area ns k c f.role f.count measuring-ready.slot in
          rw (← drop-drop (slots_taken f) k (slots_of ns), ← s) (rw (field-here ws ns i k served m.standing l f e.same) at m.same)

      pub measuring-stop : (x : Refused) → Err x ≡ answer_of (field_checked area k (slot_at ns k) c f.role f.count) → Measures (arguments_checked area 0 (slots_of ns) (decoded (length ws) ws) origin) (Err x)
      measuring-stop x q =
          let o = turn-stop _ x q in
          let p : x.place ≡ k = stepped-place area k (slot_at ns k) c f.role f.count x.why x.place o in
          record { same = ap measured_of (rw o at onward); small = omega (arith, measuring-ready.slot, served.limit) }

      pub measuring-next : (d : Cursor) → Ok d ≡ answer_of (field_checked area k (slot_at ns k) c f.role f.count) → ((j : ℕ) → get_or ns j 0 < 4294967296)
          → (taken : ℕ) → taken ≡ slots_taken f → Measuring area ws ns (i + 1) (k + taken) d
      unfolding slot_at
      measuring-next d q small taken t =
          let o = turn-next _ d q in
          let a : d ≡ advance c f.role f.count (slot_at ns k).len = stepped-advance area k (slot_at ns k) c f.role f.count d o in
          let b = advance-small c f.role f.count (slot_at ns k).len m.within e.role e.count (small (slot_width * k + 2)) in
          rw (t, a)
          (record {
            standing = standing-next ws ns i k served m.standing l f e.same;
            within = advance-within c f.role f.count (slot_at ns k).len m.within;
            near = omega (arith, b, m.near);
            same = rw (← a) (rw o at onward);
          })
