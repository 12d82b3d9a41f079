-- The proof of M-113: joined texts have joined fields, joined slots serve them as before, and the results are put one
-- after the other.
use Prim.Native.Nat.{ℕ, ◌≤◌}
use native.Mathlib.Omega.{arith}
use mathlib.Core.Path.{◌≡◌, refl, sym, ap, ap₂, ◌∙◌, subst}
use mathlib.Core.Bool.{Bool, true, false, ◌&&◌}
use mathlib.Core.List.{List, [], ◌∷◌, ◌++◌, append-nil, append_assoc}
use lib.ListN.{length, length-append}
use lib.Dec.{T}
use Rattle.layout.specs.declared.Field.{Field}
use Rattle.layout.specs.Refusals.{ok}
use Rattle.layout.specs.Layout.{fields_of, slot_count}
use Rattle.layout.proofs.Laws.{ok-inj}
use Rattle.layout.proofs.Decoded.{count-append}
use Rattle.layout.proofs.Joining.{joined-fields}
use Rattle.record.specs.Table.{slots_of}
use Rattle.record.specs.Geometry.{sizes_fit}
use Rattle.record.specs.Packing.{filled, packed, packs, Packed, pack_effect, pack}
use Rattle.record.proofs.Bytes.{both}
use Rattle.record.proofs.Tables.{slots-append}
use Rattle.record.proofs.Sizes.{Sized, sized, sized-fits}
use Rattle.record.proofs.Arguments.{slots-join}
use Rattle.runs.specs.Ends.{plain_role}
use Rattle.runs.proofs.Calls.{T→true, packs-by, Passed, packs-passed, accepted-result, result-is}
use Rattle.runs.proofs.Joined.{ForwardFields, forward-filled, packed-append}
use Rattle.joining.specs.Claim.{forward, Template, join_templates, empty_template, pack_by, Part, result_of, Gives, Joining}

-- ---- which layouts

forward-fields : (fs : List Field) → T (forward fs) → ForwardFields fs
unfolding forward
forward-fields [] h = tt
forward-fields (f ∷ fs) h = let (x, y) = both (plain_role f.role) (forward fs) h in (x, forward-fields fs y)

forward-append : (fs gs : List Field) → T (forward fs) → T (forward gs) → T (forward (fs ++ gs))
unfolding forward
forward-append [] gs h k = k
forward-append (f ∷ fs) gs h k = step (plain_role f.role) h (λ y. forward-append fs gs y k)
  where
    step : (t : Bool) → T (t && forward fs) → (T (forward fs) → T (forward (fs ++ gs))) → T (t && forward (fs ++ gs))
    step true h ih = ih h
    step false h ih = h

-- ---- the claim

module _ (area : List ℕ) where
  part : (a : Part area) → Passed a.template.text a.template.slots area a.output a.fields (result_of a)
  unfolding pack
  part a =
      let (bs, e) = accepted-result a.output (packs a.template.text a.template.slots area a.output) a.accepted in
      let result : bs ≡ result_of a = sym (result-is a.output bs _ (ap (pack_effect a.output) e)) in
      let (fs, p) = packs-passed a.template.text a.template.slots area a.output bs e in
      rw (← result, ok-inj (sym a.has-fields ∙ p.fields)) p

  sizes-of : (a : Part area) → Sized (length a.template.text) (length a.template.slots) (length a.output) (length area)
  sizes-of a = sized (part a).sizes

  fields : (a b : Part area) → fields_of true (a.template.text ++ b.template.text) ≡ ok (a.fields ++ b.fields)
  fields a b = joined-fields true a.template.text b.template.text a.fields b.fields a.has-fields b.has-fields

  two : (a b : Part area) → Gives area (join_templates a.template b.template) (result_of a ++ result_of b)
  unfolding pack
  two a b output sizes room =
      let s = a.template.slots in
      let t = b.template.slots in
      let fs = a.fields in
      let gs = b.fields in
      let split : slots_of (s ++ t) ≡ slots_of s ++ slots_of t = slots-append s t (sizes-of a).lent.rows in
      let (served, both) = slots-join area (slots_of s) (slots_of t) fs gs (part a).count (part a).served (part b).served in
      let count : length (slots_of (s ++ t)) ≡ slot_count (fs ++ gs) =
      rw (split, length-append, count-append fs gs, (part a).count, (part b).count) in
      let bytes : packed (filled area (slots_of (s ++ t)) (fs ++ gs)) ≡ result_of a ++ result_of b =
      rw (
        split,
        both,
        packed-append _ _ (forward-filled area fs (forward-fields fs a.goes-forward) (slots_of s))
            (forward-filled area gs (forward-fields gs b.goes-forward) (slots_of t)),
        (part a).result,
        (part b).result,
      ) in
      ap (pack_effect output)
      (packs-by (a.template.text ++ b.template.text) (s ++ t) area output (fs ++ gs) (fields a b) (T→true _ sizes) count (rw split served) (rw bytes room) ∙ ap ok bytes)

  blank-first : (t : Template) (output : List ℕ) → pack_by (join_templates empty_template t) area output ≡ pack_by t area output
  blank-first t output = refl

  blank-second : (t : Template) (output : List ℕ) → pack_by (join_templates t empty_template) area output ≡ pack_by t area output
  blank-second t output = ap₂ (λ (x y : List ℕ). pack x y area output) (append-nil t.text) (append-nil t.slots)

  three-same : (a b c : Template) (output : List ℕ) → pack_by (join_templates (join_templates a b) c) area output ≡ pack_by (join_templates a (join_templates b c)) area output
  three-same a b c output =
      ap₂ (λ (x y : List ℕ). pack x y area output) (append_assoc a.text b.text c.text) (append_assoc a.slots b.slots c.slots)

  -- ---- two joined are a part again, which a third may follow

  module _ (a b : Part area) (output : List ℕ)
      (sizes : T (sizes_fit (a.template.text ++ b.template.text) (a.template.slots ++ b.template.slots) output area))
      (room : length (result_of a ++ result_of b) ≤ length output) where
    joined : Part area
    joined = record {
      template = join_templates a.template b.template;
      output = output;
      fields = a.fields ++ b.fields;
      has-fields = fields a b;
      goes-forward = forward-append a.fields b.fields a.goes-forward b.goes-forward;
      accepted = ap (λ (p : Packed). p.answer.number) (two a b output sizes room);
    }

    whole-gives : (c : Part area) → Gives area (join_templates (join_templates a.template b.template) c.template) (result_of a ++ result_of b ++ result_of c)
    unfolding joined
    whole-gives c =
        subst (λ (r : List ℕ). Gives area (join_templates (join_templates a.template b.template) c.template) (r ++ result_of c))
        (result-is output (result_of a ++ result_of b) (pack_by (join_templates a.template b.template) area output) (two a b output sizes room)) (two joined c)

  three : (a b c : Part area) → Gives area (join_templates (join_templates a.template b.template) c.template) (result_of a ++ result_of b ++ result_of c)
  three a b c output sizes room =
      let x = a.template in
      let y = b.template in
      let z = c.template in
      let all : Sized (length (x.text ++ y.text ++ z.text)) (length (x.slots ++ y.slots ++ z.slots)) (length output) (length area) = sized (T→true _ sizes) in
      let front : Sized (length (x.text ++ y.text)) (length (x.slots ++ y.slots)) (length output) (length area) = record {
        text = omega (arith, all.text, length-append (x.text ++ y.text) z.text);
        whole = all.whole;
        lent = record {
          table = omega (arith, all.lent.table, length-append (x.slots ++ y.slots) z.slots);
          rows = omega (arith, all.lent.rows, length-append (x.slots ++ y.slots) z.slots, (sizes-of c).lent.rows);
          limit = all.lent.limit;
        };
      } in
      whole-gives a b output (subst T (sym (sized-fits front)) tt) (omega (arith, room, length-append (result_of a ++ result_of b) (result_of c))) c output sizes room

  pub joins : Joining area
  joins = record { two = two; fields = fields; blank-first = blank-first; blank-second = blank-second; three-same = three-same; three = three }
