-- Each way out of the calls is one law of the definitions: what was tested on the way is its premise.
use Rattle.std.specs.declared.option.Option.{Option}
use Rattle.std.specs.declared.option.Option.TheVariants.{Some, None}
use Rattle.std.specs.declared.result.Result as Std
use Rattle.std.specs.declared.result.Result.TheVariants.{Ok, Err}
use Prim.Native.Nat.{ℕ, ◌-◌, ◌≤◌, ◌<◌}
use native.Mathlib.Omega.{arith}
use mathlib.Core.Path.{◌≡◌, refl, sym, ap, ◌∙◌}
use mathlib.Core.Bool.{true}
use mathlib.Core.List.{List, []}
use lib.ListN.{length, take, length-map, length-take}
use borrow.Author.Tests.{le-leb, lt-leb, ne_eqb}
use Rattle.layout.specs.declared.Field.{Field}
use Rattle.layout.specs.declared.Fields.{Fields}
use Rattle.layout.specs.declared.Refused.{Refused}
use Rattle.layout.specs.declared.Refusal.{Refusal}
use Rattle.layout.specs.declared.Refusal.TheVariants.{BadSize, BadSlots, NoRoom, OtherFields, NotPlain}
use Rattle.layout.specs.Refusals.{ok, refused}
use Rattle.layout.specs.Layout.{max_layout, fields_of}
use Rattle.layout.specs.inside.Parsing.{decoded, Parses}
use Rattle.layout.proofs.Laws.{ok-inj}
use Rattle.layout.proofs.Decoded.{decoded-length, decoded-front, Learnt, parsed-fields, parsed-refused}
use Rattle.layout.proofs.Places.{refused-inside}
use Rattle.promises.specs.declared.Told.{Told}
use Rattle.promises.specs.Placed.{Placed, fields_in, placed_fields}
use Rattle.promises.specs.Promises.{Promise, grows, keeps, joins, is_plain, in_table, in_record, reach_start, nowhere, first_difference, told, refused_in, layout_fields, promised, grown, extended_by, extended}
use Rattle.promises.specs.inside.Walk.{kept_front, same_front, place_number, PlaceOf, Holds, ReadAs, BreaksAt, GrownAs}
use Rattle.promises.proofs.Places.{Placing, placing, placed-fields, placed-refused}
use Rattle.promises.proofs.Fronts.{break-none, break-at, differ-none, differ-at, front-few}

-- ---- a layout read

module _ (text : List ℕ) where
  pub read-long : max_layout < length text → ReadAs text (Err (record { why = BadSize; place = 0 })) []
  unfolding layout_fields
  read-long h = (rw (lt-leb (length text) max_layout h), omega arith)

  layout-short : length text ≤ max_layout → layout_fields text ≡ placed_fields text
  unfolding layout_fields
  layout-short h = rw (le-leb (length text) max_layout h)

  pub read_short : (r : Std.Result Fields Refused) (ws : List ℕ) → length text ≤ max_layout → Parses (fields_of true text) r ws → ReadAs text r ws
  read_short (Err e) ws h p =
      let q : fields_of true text ≡ refused e.why e.place = parsed-refused (fields_of true text) (Err e) e ws p refl in
      (layout-short h ∙ placed-refused text e.why e.place q, omega (arith, refused-inside true text e.why e.place q))
  read_short (Ok f) ws h p =
      let l : Learnt (fields_of true text) f.count f.slots ws = parsed-fields (fields_of true text) (Ok f) f ws p refl in
      (l.few, record { room = omega (arith, length-take f.count ws, l.room); short = h; fields = l.fields ∙ ap ok (decoded-front f.count ws) })

-- ---- the codes of a text

module _ (text : List ℕ) (ws : List ℕ) (h : Holds text ws) where
  pub layout-placed : (ps : List Placed) → placed_fields text ≡ ok ps → layout_fields text ≡ ok ps
  layout-placed ps e = layout-short text h.short ∙ e

  pub codes_placed : Placing text (decoded (length ws) ws)
  codes_placed = placing text (decoded (length ws) ws) h.fields

  codes-fields : (ps : List Placed) → placed_fields text ≡ ok ps → fields_in ps ≡ decoded (length ws) ws
  codes-fields ps e = ok-inj (sym (placed-fields text ps e) ∙ h.fields)

  codes-length : (ps : List Placed) → placed_fields text ≡ ok ps → length ps ≡ length ws
  codes-length ps e = sym (length-map ps (λ p. p.what)) ∙ ap length (codes-fields ps e) ∙ decoded-length (length ws) ws (omega arith)

  -- ---- the first field that breaks a promise

  module _ (q : Promise) (k : ℕ) (kept : k ≡ kept_front q reach_start (decoded (length ws) ws)) where
    pub breaks-none : length ws ≤ k → BreaksAt text q None
    breaks-none l = record {
      short = tt;
      same = λ ps e.
          let many : length ps ≤ kept_front q reach_start (fields_in ps) =
          rw (codes-fields ps e) (omega (arith, codes-length ps e)) in
          sym (break-none q 0 ps many);
    }

    pub breaks-at : (r : ℕ) → k < length ws → PlaceOf text k r → BreaksAt text q (Some r)
    breaks-at r l p = record {
      short = omega (arith, p.within, h.short);
      same = λ ps e.
          let front : k ≡ kept_front q reach_start (fields_in ps) = rw (codes-fields ps e) kept in
          let few : kept_front q reach_start (fields_in ps) < length ps = omega (arith, codes-length ps e) in
          p.same ps e ∙ rw front (sym (break-at q (length text) ps few));
    }

  -- ---- beside the old fields

  module _ (fs : List Field) (k : ℕ) (same : k ≡ same_front fs (decoded (length ws) ws)) where
    front : (ps : List Placed) → placed_fields text ≡ ok ps → k ≡ same_front fs (fields_in ps)
    front ps e = rw (codes-fields ps e) same

    pub grown-differs : (r : ℕ) → k < length fs → PlaceOf text k r → GrownAs text fs (refused_in 1 OtherFields r)
    unfolding grown
    grown-differs r l p ps e =
        let first : first_difference (length text) fs ps ≡ r =
        differ-at (length text) fs ps (omega (arith, front ps e)) ∙ rw (← front ps e) (sym (p.same ps e)) in
        let some : r ≡ nowhere → ⊥ = λ z. omega (arith, p.within, h.short) in
        rw (first, ne_eqb r nowhere some)

    -- what is asked after it, one after the other: each question where all before it found no place
    module _ (all : length fs ≤ k) where
      alike : (ps : List Placed) → placed_fields text ≡ ok ps → first_difference (length text) fs ps ≡ nowhere
      alike ps e = differ-none (length text) fs ps (omega (arith, front ps e))

      module _ {a : Option ℕ} (plain : BreaksAt text is_plain a) where
        pub grown-breaks : (p : ℕ) → a ≡ Some p → p ≤ max_layout → GrownAs text fs (refused_in 1 NotPlain p)
        unfolding grown
        grown-breaks p q l ps e = rw (alike ps e, ← plain.same ps e, q, ne_eqb p nowhere (λ z. omega arith))

        module _ (no-a : a ≡ None) {b : Option ℕ} (slots : BreaksAt text in_table b) where
          pub grown-slots : (p : ℕ) → b ≡ Some p → p ≤ max_layout → GrownAs text fs (refused_in 1 BadSlots p)
          unfolding grown
          grown-slots p q l ps e = rw (alike ps e, ← plain.same ps e, no-a, ← slots.same ps e, q, ne_eqb p nowhere (λ z. omega arith))

          module _ (no-b : b ≡ None) {c : Option ℕ} (room : BreaksAt text in_record c) where
            pub grown-room : (p : ℕ) → c ≡ Some p → p ≤ max_layout → GrownAs text fs (refused_in 1 NoRoom p)
            unfolding grown
            grown-room p q l ps e =
                rw (alike ps e, ← plain.same ps e, no-a, ← slots.same ps e, no-b, ← room.same ps e, q, ne_eqb p nowhere (λ z. omega arith))

            pub grown-told : c ≡ None → (m : ℕ) → m ≡ length fs → GrownAs text fs (told m (length ws - m) 0)
            unfolding grown
            grown-told no-c m long ps e =
                rw (alike ps e, ← plain.same ps e, no-a, ← slots.same ps e, no-b, ← room.same ps e, no-c, long, codes-length ps e)

    pub grown-few : length fs ≤ k → length fs ≤ length ws
    grown-few l = omega (arith, (front-few fs (decoded (length ws) ws)).1, decoded-length (length ws) ws (omega arith))

-- ---- the calls

module _ (layout : List ℕ) where
  pub promises-refused : (why : Refusal) (place : ℕ) → layout_fields layout ≡ refused why place → refused_in 0 why place ≡ promised layout
  unfolding promised
  promises-refused why place e = rw e

  pub promises-told : (ws : List ℕ) → Holds layout ws → {a b c : Option ℕ} → BreaksAt layout grows a → BreaksAt layout keeps b → BreaksAt layout joins c
      → told (place_number a) (place_number b) (place_number c) ≡ promised layout
  unfolding promised
  promises-told ws h p q r =
      let w : Placing layout (decoded (length ws) ws) = codes_placed layout ws h in
      rw (layout-placed layout ws h w.placed w.here, p.same w.placed w.here, q.same w.placed w.here, r.same w.placed w.here)

module _ (fs : List Field) (new : List ℕ) where
  pub by-refused : (why : Refusal) (place : ℕ) → layout_fields new ≡ refused why place → refused_in 1 why place ≡ extended_by fs new
  unfolding extended_by
  by-refused why place e = rw e

  pub by-grown : (ws : List ℕ) → Holds new ws → (r : Told) → GrownAs new fs r → r ≡ extended_by fs new
  unfolding extended_by
  by-grown ws h r g =
      let w : Placing new (decoded (length ws) ws) = codes_placed new ws h in
      g w.placed w.here ∙ rw (layout-placed new ws h w.placed w.here)

module _ (old new : List ℕ) where
  pub extends-refused : (why : Refusal) (place : ℕ) → layout_fields old ≡ refused why place → refused_in 0 why place ≡ extended old new
  unfolding extended
  extends-refused why place e = rw e

  pub extends-by : (ws : List ℕ) → Holds old ws → extended_by (decoded (length ws) ws) new ≡ extended old new
  unfolding extended
  extends-by ws h =
      let w : Placing old (decoded (length ws) ws) = codes_placed old ws h in
      rw (layout-placed old ws h w.placed w.here, w.same)
