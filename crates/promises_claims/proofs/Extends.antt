-- No field differs just where the new fields are the old ones with others after them, because the test of two fields
-- holds just where they are equal and every place lies in the text. With that `extends` asks what demand 3 asks of the
-- layouts, and demand 3 is proved.
use Rattle.std.specs.Prelude.{if◌then◌else◌}
use Prim.Native.Nat.{ℕ, ◌+◌, ◌-◌, ◌≤◌}
use native.Mathlib.Omega.{arith}
use mathlib.Core.Path.{◌≡◌, refl, sym, ap, ◌∙◌, subst}
use mathlib.Core.Bool.{Bool, true, false, ◌&&◌}
use mathlib.Core.List.{List, [], ◌∷◌, ◌++◌, append_assoc, append-nil}
use lib.ListN.{length, length-append, length-map}
use lib.Dec.{T, eqb}
use borrow.Author.Tests.{eqb-true}
use Rattle.layout.specs.declared.Field.{Field}
use Rattle.layout.specs.declared.Refusal.{Refusal}
use Rattle.layout.specs.declared.Refusal.TheVariants.{BadSlots, NoRoom, OtherFields, NotPlain}
use Rattle.layout.specs.Refusals.{Result, ok, ◌>>=◌}
use Rattle.layout.specs.Layout.{max_layout}
use Rattle.layout.proofs.Laws.{ok-inj, bound, demanded}
use Rattle.layout.proofs.Decoded.{count-append}
use Rattle.layout.proofs.Joining.{joined-fields}
use Rattle.runs.proofs.Calls.{T→true}
use Rattle.evolution.specs.Claim.{plain}
use Rattle.evolution.proofs.ReadsBack.{reads-back}
use Rattle.promises.specs.declared.Told.{Told}
use Rattle.promises.specs.Placed.{Placed, fields_in}
use Rattle.promises.specs.Promises.{Promise, is_plain, in_table, in_record, reach_start, plain_field, nowhere, first_break, same_field, first_difference, told, layout_fields, refuse_at, grown, extended_by, extended}
use Rattle.promises.proofs.Same.{same-equal, same-itself}
use Rattle.promises_claims.specs.Claim.{Stand, SameFields, Accepted, Limited, Extension, layouts_of, Extends, GrowsItself, GrowsBy}
use Rattle.promises_claims.proofs.Kept.{true→T, all_keep, unbroken, slots_kept, room-kept, plain-kept}
use Rattle.promises_claims.proofs.NotEmpty.{end-append, not-empty, spoken, speaks}
use Rattle.promises_claims.proofs.Promises.{Found, found, Opened, opened, not-refused, promises-hold}

-- ---- the old fields and others after them

pub record Behind (fs gs : List Field) : Type 0 where
  pub others : List Field
  pub joined : gs ≡ fs ++ others

behind_more : (f g : Field) (fs gs : List Field) → f ≡ g → Behind fs gs → Behind (f ∷ fs) (g ∷ gs)
behind_more f g fs gs e b = record { others = b.others; joined = rw (e, b.joined) }

differ-behind : (text : List ℕ) (from : ℕ) (fs : List Field) (ps : List Placed) → length text ≤ max_layout
    → Stand text from ps → first_difference (length text) fs ps ≡ nowhere → Behind fs (fields_in ps)
unfolding first_difference
differ-behind text from [] ps h s e = record { others = fields_in ps; joined = refl }
differ-behind text from (f ∷ fs) [] h s e = absurd (omega arith)
differ-behind text from (f ∷ fs) (p ∷ ps) h (n, here, later) e =
    step (same_field f p.what) refl e (λ k. differ-behind text (p.place + 1 + n) fs ps h later k)
  where
    step : (t : Bool) → same_field f p.what ≡ t → (if t then first_difference (length text) fs ps else p.place) ≡ nowhere
        → (first_difference (length text) fs ps ≡ nowhere → Behind fs (fields_in ps)) → Behind (f ∷ fs) (p.what ∷ fields_in ps)
    step true q k ih = behind_more f p.what fs (fields_in ps) (same-equal f p.what q) (ih k)
    step false q k ih = absurd (omega (arith, here.inside))

behind-differ : (end : ℕ) (fs gs : List Field) (ps : List Placed) → fields_in ps ≡ fs ++ gs → first_difference end fs ps ≡ nowhere
unfolding first_difference
behind-differ end [] gs ps e = refl
behind-differ end (f ∷ fs) gs [] e = let z : ◌≡◌ {A = ℕ} 0 1 = cc in absurd (omega arith)
behind-differ end (f ∷ fs) gs (p ∷ ps) e =
    let head : p.what ≡ f = cc in
    let tail : fields_in ps ≡ fs ++ gs = cc in
    rw (head, same-itself f) (behind-differ end fs gs ps tail)

-- ---- the call taken apart

-- what it has passed where it accepts
record Passed (fs : List Field) (new : List ℕ) : Type 0 where
  placed : List Placed
  whole : layout_fields new ≡ ok placed
  alike : first_difference (length new) fs placed ≡ nowhere
  plain : first_break is_plain placed ≡ nowhere
  slots : first_break in_table placed ≡ nowhere
  room : first_break in_record placed ≡ nowhere

-- a place that is not refused is none
no_place : (why : Refusal) (place : ℕ) (next : Unit {0} → Result Told) (t : Told) → (refuse_at why place >>= next) ≡ ok t
    → (place ≡ nowhere) × (next tt ≡ ok t)
no_place why place next t e =
    let (none, rest) = demanded (eqb place nowhere) why place next t e in
    (eqb-true place nowhere none, rest)

passed : (fs : List Field) (new : List ℕ) (ps : List Placed) (t : Told) → layout_fields new ≡ ok ps
    → grown (length new) fs ps ≡ ok t → Passed fs new
unfolding grown
passed fs new ps t e z =
    let (alike, z₁) = no_place OtherFields (first_difference (length new) fs ps) _ t z in
    let (plain, z₂) = no_place NotPlain (first_break is_plain ps) _ t z₁ in
    let (slots, z₃) = no_place BadSlots (first_break in_table ps) _ t z₂ in
    let (room, z₄) = no_place NoRoom (first_break in_record ps) _ t z₃ in
    record { placed = ps; whole = e; alike = alike; plain = plain; slots = slots; room = room }

passed-by : (fs : List Field) (new : List ℕ) → (extended_by fs new).answer.number ≡ 0 → Passed fs new
unfolding extended_by
passed-by fs new z =
    let (t, e, zero) = not-refused 1 (layout_fields new >>= grown (length new) fs) z in
    let (ps, whole, rest) = bound (layout_fields new) (grown (length new) fs) t e in
    passed fs new ps t whole rest

module _ (old new : List ℕ) where
  -- ---- from the answer to the layouts

  extension : (os : List Placed) → layout_fields old ≡ ok os → Passed (fields_in os) new → Extension old new
  extension os e p =
      let a : Opened old os = opened old os e in
      let b : Opened new p.placed = opened new p.placed p.whole in
      let gs : List Field = fields_in p.placed in
      let w : Behind (fields_in os) gs =
      differ-behind new 0 (fields_in os) p.placed b.short b.stand p.alike in
      let kept : (q : Promise) → first_break q p.placed ≡ nowhere → all_keep q reach_start gs ≡ true =
      λ q k. (unbroken q new p.placed gs b.short b.stand refl).0 k in
      let plainly : T (plain gs) = true→T (plain gs) (plain-kept gs ∙ kept is_plain p.plain) in
      let limits : Limited gs =
      record { slots = (slots_kept gs).0 (kept in_table p.slots); end = (room-kept gs).0 (kept in_record p.room) } in
      record {
        fields = fields_in os;
        added = w.others;
        old-short = a.short;
        new-short = b.short;
        old-fields = a.fields;
        new-fields = b.fields ∙ ap ok w.joined;
        is_plain = subst (λ (fs : List Field). T (plain fs)) w.joined plainly;
        limited = subst Limited w.joined limits;
      }

  pub extension-by : (extended old new).answer.number ≡ 0 → Extension old new
  unfolding extended
  extension-by z =
      let next : List Placed → Result Told = λ os. ok (extended_by (fields_in os) new) in
      let (t, e, zero) = not-refused 0 (layout_fields old >>= next) z in
      let (os, whole, rest) = bound (layout_fields old) next t e in
      let is : extended_by (fields_in os) new ≡ t = ok-inj rest in
      extension os whole (passed-by (fields_in os) new (ap (λ x. x.answer.number) is ∙ zero))

  -- ---- and back

  pub counts : (e : Extension old new) → extended old new ≡ told (length e.fields) (length e.added) 0
  unfolding extended extended_by grown
  counts e =
      let f : Found old e.fields = found old e.fields e.old-short e.old-fields in
      let g : Found new (e.fields ++ e.added) = found new (e.fields ++ e.added) e.new-short e.new-fields in
      let alike : first_difference (length new) e.fields g.placed ≡ nowhere = behind-differ (length new) e.fields e.added g.placed g.same in
      let all : List Field = e.fields ++ e.added in
      let none : (q : Promise) → all_keep q reach_start all ≡ true → first_break q g.placed ≡ nowhere =
      λ q k. (unbroken q new g.placed all e.new-short g.stand g.same).1 k in
      let plainly : first_break is_plain g.placed ≡ nowhere =
      none is_plain (sym (plain-kept all) ∙ T→true (plain all) e.is_plain) in
      let slots : first_break in_table g.placed ≡ nowhere = none in_table ((slots_kept all).1 e.limited.slots) in
      let room : first_break in_record g.placed ≡ nowhere = none in_record ((room-kept all).1 e.limited.end) in
      let long : length g.placed ≡ length e.fields + length e.added = sym (length-map g.placed (λ p. p.what)) ∙ ap length g.same ∙ length-append e.fields e.added in
      let more : length g.placed - length e.fields ≡ length e.added = omega arith in
      rw (f.whole, g.whole, f.same, alike, plainly, slots, room, more)

  pub accepted : Extension old new → (extended old new).answer.number ≡ 0
  accepted e = ap (λ t. t.answer.number) (counts e)

-- ---- year after year

chained : (old new newer : List ℕ) → (a : Extension old new) (b : Extension new newer) → extended old newer ≡ told (length a.fields) (length a.added + length b.added) 0
chained old new newer a b =
    let middle : a.fields ++ a.added ≡ b.fields = ok-inj (sym a.new-fields ∙ b.old-fields) in
    let all : b.fields ++ b.added ≡ a.fields ++ (a.added ++ b.added) = rw (← middle) (append_assoc a.fields a.added b.added) in
    let both : Extension old newer = record {
      fields = a.fields;
      added = a.added ++ b.added;
      old-short = a.old-short;
      new-short = b.new-short;
      old-fields = a.old-fields;
      new-fields = b.new-fields ∙ ap ok all;
      is_plain = subst (λ (fs : List Field). T (plain fs)) all b.is_plain;
      limited = subst Limited all b.limited;
    } in
    counts old newer both ∙ ap (λ (n : ℕ). told (length a.fields) n 0) (length-append a.added b.added)

pub extends-holds : (old new : List ℕ) → Extends old new
extends-holds old new = record {
  accepts = (extension-by old new, accepted old new);
  counts = counts old new;
  keeps = λ z. (extension-by old new z, λ a. reads-back (layouts_of (extension-by old new z) a));
  not-empty = not-empty old new;
  speaks = (λ z. spoken old new (extension-by old new z), λ s. accepted old new (speaks old new s));
  chain = λ newer y z.
      let a : Extension old new = extension-by old new y in
      let b : Extension new newer = extension-by new newer z in
      rw (counts old new a, counts new newer b) (chained old new newer a b);
}

-- ---- fields that are the same

pub same-fields : SameFields
same-fields f g = (same-equal f g, λ e. rw e (same-itself g))

-- ---- a layout put after another

all_append : (fs gs : List Field) → T (plain fs) → T (plain gs) → T (plain (fs ++ gs))
unfolding plain
all_append [] gs h k = k
all_append (f ∷ fs) gs h k = step (plain_field f) h (λ t. all_append fs gs t k)
  where
    step : (b : Bool) → T (b && plain fs) → (T (plain fs) → T (plain (fs ++ gs))) → T (b && plain (fs ++ gs))
    step true t ih = ih t
    step false t ih = t

pub grows-by : GrowsBy
grows-by layout other a b p q fits slots end =
    counts layout (layout ++ other)
    (record {
      fields = a.fields;
      added = b.fields;
      old-short = a.short;
      new-short = fits;
      old-fields = a.has-fields;
      new-fields = joined-fields true layout other a.fields b.fields a.has-fields b.has-fields;
      is_plain =
          all_append a.fields b.fields (((promises-hold layout).grows a).0 p).0
          (((promises-hold other).grows b).0 q).0;
      limited = record { slots = rw count-append slots; end = rw end-append end };
    })

-- ---- a layout beside itself

itself : (layout : List ℕ) (a : Accepted layout) → T (plain a.fields) → Limited a.fields → Extension layout layout
itself layout a plainly limits =
    let none : a.fields ≡ a.fields ++ [] = sym (append-nil a.fields) in
    record {
      fields = a.fields;
      added = [];
      old-short = a.short;
      new-short = a.short;
      old-fields = a.has-fields;
      new-fields = a.has-fields ∙ ap ok none;
      is_plain = subst (λ (fs : List Field). T (plain fs)) none plainly;
      limited = subst Limited none limits;
    }

pub grows-itself : GrowsItself
grows-itself layout = (
  λ (z, e).
      let a : Accepted layout = (promises-hold layout).accepts.0 z in
      let (plainly, limits) = ((promises-hold layout).grows a).0 e in
      accepted layout layout (itself layout a plainly limits),
  λ z.
      let e : Extension layout layout = extension-by layout layout z in
      let a : Accepted layout =
      record { fields = e.fields ++ e.added; short = e.new-short; has-fields = e.new-fields } in
      ((promises-hold layout).accepts.1 a, ((promises-hold layout).grows a).1 (e.is_plain, e.limited)),
)
