-- The call tells of each promise where it is broken first, and that is nowhere just where all fields keep it, which is
-- what the theorem asks of a layout. Where M-107 speaks of it, its records are those that the call promised.
use Prim.Native.Nat.{ℕ, ◌≤◌}
use mathlib.Core.Path.{◌≡◌, refl, sym, ap, ◌∙◌}
use mathlib.Core.Bool.{true}
use mathlib.Core.List.{List}
use lib.ListN.{length}
use lib.Dec.{T, leb}
use borrow.Author.Tests.{le-leb, leb-true}
use Rattle.layout.specs.declared.Field.{Field}
use Rattle.layout.specs.declared.Refusal.TheVariants.{BadSize}
use Rattle.layout.specs.Refusals.{Result, ok, refused, ◌>>=◌}
use Rattle.layout.specs.Layout.{max_layout, fields_of}
use Rattle.layout.proofs.Laws.{bound, demanded, no-number-zero}
use Rattle.record.specs.Packing.{pack, packs}
use Rattle.record.proofs.Sizes.{Sized, sized}
use Rattle.runs.proofs.Calls.{T→true, packs-passed, accepted-result}
use Rattle.evolution.specs.Claim.{plain}
use Rattle.lossless.specs.Claim.{lossless, Layout, Archived}
use Rattle.lossless.proofs.LosesNothing.{loses-nothing}
use Rattle.joining.specs.Claim.{forward, Part}
use Rattle.joining.proofs.Joining.{joins}
use Rattle.promises.specs.declared.Told.{Told}
use Rattle.promises.specs.Placed.{Placed, fields_in, placed_fields}
use Rattle.promises.specs.Promises.{Promise, grows, keeps, joins as may_join, reach_start, nowhere, first_break, told, in_layout, layout_fields, promised}
use Rattle.promises.proofs.Places.{Placing, placing, placed-fields}
use Rattle.promises_claims.specs.Claim.{◌⇔◌, Stand, Accepted, Packing, Limited, KeepsAll, Archivable, Promises}
use Rattle.promises_claims.proofs.Places.{stands}
use Rattle.promises_claims.proofs.Kept.{true→T, all_keep, unbroken, grows-kept, keeps-kept, forward-kept}
use Rattle.promises_claims.proofs.NotEmpty.{each-record, some-record, archived-limits}

-- ---- a layout that is accepted

-- it has placed fields, and those are all that the call looks at
pub record Found (layout : List ℕ) (fs : List Field) : Type 0 where
  pub placed : List Placed
  pub here : placed_fields layout ≡ ok placed
  pub whole : layout_fields layout ≡ ok placed
  pub same : fields_in placed ≡ fs
  pub stand : Stand layout 0 placed

pub found : (layout : List ℕ) (fs : List Field) → length layout ≤ max_layout → fields_of true layout ≡ ok fs → Found layout fs
unfolding layout_fields
found layout fs h e =
    let w : Placing layout fs = placing layout fs e in
    record { placed = w.placed; here = w.here; whole = rw (le-leb (length layout) max_layout h) w.here; same = w.same; stand = stands layout w.placed w.here }

-- the other way round
pub record Opened (layout : List ℕ) (ps : List Placed) : Type 0 where
  pub short : length layout ≤ max_layout
  pub fields : fields_of true layout ≡ ok (fields_in ps)
  pub stand : Stand layout 0 ps

pub opened : (layout : List ℕ) (ps : List Placed) → layout_fields layout ≡ ok ps → Opened layout ps
unfolding layout_fields
opened layout ps e =
    let (t, k) = demanded (leb (length layout) max_layout) BadSize 0 (λ _. placed_fields layout) ps e in
    record { short = leb-true (length layout) max_layout t; fields = placed-fields layout ps k; stand = stands layout ps k }

-- what is answered with 0 was not refused
pub not-refused : (which : ℕ) (r : Result Told) → (in_layout which r).answer.number ≡ 0 → (t : Told) × (r ≡ ok t) × (t.answer.number ≡ 0)
not-refused which (ok t) z = (t, refl, z)
not-refused which (refused why place) z = no-number-zero why z

module _ (layout : List ℕ) where
  module _ (a : Accepted layout) where
    f : Found layout a.fields
    f = found layout a.fields a.short a.has-fields

    answers : promised layout ≡ told (first_break grows f.placed) (first_break keeps f.placed) (first_break may_join f.placed)
    unfolding promised
    answers = rw f.whole

    -- what is told of a promise that all fields keep just where P holds
    exactly : (q : Promise) (P : Type 0) (n : ℕ) → n ≡ first_break q f.placed
        → (all_keep q reach_start a.fields ≡ true) ⇔ P → (n ≡ nowhere) ⇔ P
    exactly q P n e (there, back) =
        let (kept, unbroken) = unbroken q layout f.placed a.fields a.short f.stand f.same in
        (λ k. there (kept (sym e ∙ k)), λ p. e ∙ unbroken (back p))

    grows-exactly : ((promised layout).answer.first ≡ nowhere) ⇔ (T (plain a.fields) × Limited a.fields)
    grows-exactly = exactly grows _ _ (ap (λ t. t.answer.first) answers) (grows-kept a.fields)

    keeps-exactly : ((promised layout).answer.second ≡ nowhere) ⇔ (T (lossless a.fields) × Limited a.fields)
    keeps-exactly = exactly keeps _ _ (ap (λ t. t.answer.second) answers) (keeps-kept a.fields)

    joins-exactly : ((promised layout).fourth ≡ nowhere) ⇔ T (forward a.fields)
    joins-exactly =
        exactly may_join _ _ (ap (λ t. t.fourth) answers) (
          λ k. true→T (forward a.fields) (forward-kept a.fields ∙ k),
          λ t. sym (forward-kept a.fields) ∙ T→true (forward a.fields) t,
        )

  accepted-by : (promised layout).answer.number ≡ 0 → Accepted layout
  unfolding promised
  accepted-by z =
      let tell : List Placed → Result Told =
      λ ps. ok (told (first_break grows ps) (first_break keeps ps) (first_break may_join ps)) in
      let (t, e, zero) = not-refused 0 (layout_fields layout >>= tell) z in
      let (ps, whole, rest) = bound (layout_fields layout) tell t e in
      let o : Opened layout ps = opened layout ps whole in
      record { fields = fields_in ps; short = o.short; has-fields = o.fields }

-- a packing that is accepted has read its layout
packed-by : (layout area : List ℕ) → Packing layout area → Accepted layout
unfolding pack
packed-by layout area p =
    let (bs, e) = accepted-result p.output (packs layout p.slots area p.output) p.accepted in
    let (fs, t) = packs-passed layout p.slots area p.output bs e in
    let limits : Sized (length layout) (length p.slots) (length p.output) (length area) = sized t.sizes in
    record { fields = fs; short = limits.text; has-fields = t.fields }

-- and is a part that may be joined, where the third number says so
part : (layout area : List ℕ) → Packing layout area → (promised layout).fourth ≡ nowhere → Part area
part layout area p e =
    let a : Accepted layout = packed-by layout area p in
    record {
      template = record { text = layout; slots = p.slots };
      output = p.output;
      fields = a.fields;
      has-fields = a.has-fields;
      goes-forward = (joins-exactly layout a).0 e;
      accepted = p.accepted;
    }

-- ---- M-107

module _ (layout : List ℕ) where
  -- the lossless layout of what was told
  form : KeepsAll layout → (l : Layout) × (l.text ≡ layout) × (length layout ≤ max_layout) × Limited l.fields
  form (z, e) =
      let a : Accepted layout = accepted-by layout z in
      let (kept, limits) = (keeps-exactly layout a).0 e in
      let l : Layout = record { text = layout; fields = a.fields; has-fields = a.has-fields; is-lossless = kept } in
      (l, refl, a.short, limits)

  archivable : KeepsAll layout → Archivable layout
  archivable t =
      let (l, is, short, limits) = form t in
      record { form = l; is-text = is; one = some-record l (rw is short) limits }

  archived : (l : Layout) → Archived l → KeepsAll l.text
  archived l r =
      let (short, limits) = archived-limits l r in
      let a : Accepted l.text = record { fields = l.fields; short = short; has-fields = l.has-fields } in
      (ap (λ t. t.answer.number) (answers l.text a), (keeps-exactly l.text a).1 (l.is-lossless, limits))

pub promises-hold : (layout : List ℕ) → Promises layout
unfolding part
promises-hold layout = record {
  accepts = (accepted-by layout, λ a. ap (λ t. t.answer.number) (answers layout a));
  grows = grows-exactly layout;
  keeps = keeps-exactly layout;
  joins = joins-exactly layout;
  loses-nothing = λ t.
      let (l, is, short, limits) = form layout t in
      (l, is, loses-nothing l, each-record l (rw is short) limits);
  archives = (archivable layout, λ b. rw b.is-text at (archived layout b.form b.one));
  joined-packing = λ other area p q e k. (joins area).two (part layout area p e) (part other area q k);
}
