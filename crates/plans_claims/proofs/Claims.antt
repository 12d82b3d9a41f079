-- The claims of specs/Claim.antt.
use Prim.Native.Nat.{ℕ, ◌≤◌, ◌<◌}
use native.Mathlib.Omega.{arith}
use mathlib.Core.Path.{◌≡◌, refl, sym, ap, ◌∙◌}
use mathlib.Core.Bool.{Bool, true, false}
use mathlib.Core.List.{List}
use lib.Dec.{leb}
use lib.ListN.{length, drop, length-map}
use lib.Seq.{take_at}
use borrow.Author.Tests.{le-leb, leb-true}
use Rattle.layout.specs.declared.Field.{Field}
use Rattle.layout.specs.declared.Refusal.TheVariants.{BadSize, BadMove, NoRoom}
use Rattle.layout.specs.Refusals.{Result, ok, refused}
use Rattle.layout.specs.Layout.{max_layout, fields_of}
use Rattle.layout.specs.Codes.{code_for}
use Rattle.layout.proofs.Laws.{bound, demanded, no-refusal, no-number-zero}
use Rattle.describe.proofs.Counts.{fields-few}
use Rattle.record.specs.Geometry.{lengths_fit}
use Rattle.record.specs.Packing.{Packed, pack_fields}
use Rattle.record.specs.Reading.{read_fields}
use Rattle.record.proofs.ByFields.{pack-fields, read-fields}
use Rattle.plans.specs.Plans.{plan_of, plan_fields, prepares, prepare_effect, prepare, pack_plan, read_plan}
use Rattle.plans_claims.specs.Claim.{made_by, Alike, StandsFor, PlanIsLayout, PlanOfFields}
use Rattle.plans_claims.proofs.Fields.{meant, Judged, plan-packs, plan-reads, text-found, plan-of}

-- ---- what was prepared

pub record Made (layout plan : List ℕ) : Type 0 where
  pub fields : List Field
  pub are : fields_of false layout ≡ ok fields
  pub short : length layout ≤ max_layout
  pub is : plan ≡ plan_of fields

pub made : (layout run : List ℕ) → (prepare layout run).answer.number ≡ 0 → Made layout (made_by (prepare layout run))
unfolding prepare prepares
made layout run z = go (prepares layout (length run)) refl z
  where
    go : (o : Result (List Field)) → prepares layout (length run) ≡ o → (prepare_effect run o).answer.number ≡ 0 → Made layout (made_by (prepare_effect run o))
    go (ok fs) e z =
        let (short, e₁) = demanded (leb (length layout) max_layout) BadSize 0 _ fs e in
        let (gs, are, e₂) = bound (fields_of false layout) _ fs e₁ in
        let (_, e₃) = demanded (leb (length gs) (length run)) NoRoom 0 (λ _. ok gs) fs e₂ in
        record {
          fields = fs;
          are = are ∙ e₃;
          short = leb-true (length layout) max_layout short;
          is = take_at (plan_of fs) (drop (length fs) run) (length fs) (length-map fs code_for);
        }
    go (refused why place) e z = no-number-zero why z

-- how many numbers it has fits a reply
pub made-few : (layout run : List ℕ) → (prepare layout run).answer.number ≡ 0 → (prepare layout run).answer.first < 4294967296
unfolding prepare prepares
made-few layout run z = go (prepares layout (length run)) refl z
  where
    go : (o : Result (List Field)) → prepares layout (length run) ≡ o → (prepare_effect run o).answer.number ≡ 0 → (prepare_effect run o).answer.first < 4294967296
    go (ok fs) e z =
        let (short, e₁) = demanded (leb (length layout) max_layout) BadSize 0 _ fs e in
        let (gs, are, e₂) = bound (fields_of false layout) _ fs e₁ in
        let (_, e₃) = demanded (leb (length gs) (length run)) NoRoom 0 (λ _. ok gs) fs e₂ in
        omega (arith, leb-true (length layout) max_layout short, fields-few false layout fs (are ∙ e₃))
    go (refused why place) e z = no-number-zero why z

-- ---- the size counts only where it is over the limit

module _ (a b : ℕ) (o : Result (List Field)) (h : a ≤ max_layout) (k : b ≤ max_layout) where
  pack-sized : (slots area output : List ℕ) → pack_fields a o slots area output ≡ pack_fields b o slots area output
  unfolding pack_fields
  pack-sized slots area output = rw (le-leb a max_layout h, le-leb b max_layout k)

  read-sized : (bs slots area : List ℕ) (mark : ℕ) → read_fields a o bs slots area mark ≡ read_fields b o bs slots area mark
  unfolding read_fields
  read-sized bs slots area mark = rw (le-leb a max_layout h, le-leb b max_layout k)

-- ---- packings that both refuse

alike_same : {p q : Packed} → p ≡ q → Alike p q
alike_same e = rw e (record { number = refl; place = λ h. refl; second = refl; output = refl })

misused : (n : ℕ) (slots area output : List ℕ) (p q : ℕ) → Alike (pack_fields n (refused BadMove p) slots area output) (pack_fields n (refused BadMove q) slots area output)
unfolding pack_fields
misused n slots area output p q = go (lengths_fit n (length slots) (length output) (length area)) refl
  where
    go : (t : Bool) → lengths_fit n (length slots) (length output) (length area) ≡ t → Alike (pack_fields n (refused BadMove p) slots area output) (pack_fields n (refused BadMove q) slots area output)
    go true e = rw e (record { number = refl; place = λ h. absurd (h refl); second = refl; output = refl })
    go false e = rw e (record { number = refl; place = λ h. refl; second = refl; output = refl })

alike : (b : Bool) (fs : List Field) (n : ℕ) (o o' : Result (List Field)) → Judged b fs o → Judged b fs o' → (slots area output : List ℕ)
    → Alike (pack_fields n o slots area output) (pack_fields n o' slots area output)
alike true fs n o o' h k slots area output = alike_same (ap (λ (r : Result (List Field)). pack_fields n r slots area output) (h ∙ sym k))
alike false fs n o o' (p, h) (q, k) slots area output = rw (h, k) (misused n slots area output p q)

-- what packing accepts is what it finds, in the layout and in the plan
accepted : (b : Bool) (fs gs : List Field) (o o' : Result (List Field)) → Judged b fs o → Judged b fs o' → o' ≡ ok gs → o ≡ o'
accepted true fs gs o o' h k e = h ∙ sym k
accepted false fs gs o o' h (q, k) e = no-refusal (sym k ∙ e)

-- ---- the theorem

stands : (layout plan : List ℕ) → Made layout plan → StandsFor layout plan
unfolding pack_plan read_plan plan_fields
stands layout plan m =
    let fs : List Field = m.fields in
    let found = text-found layout fs m.are in
    let long : length (plan_of fs) ≡ length fs = length-map fs code_for in
    let few : length fs ≤ length layout = fields-few false layout fs m.are in
    let small : length (plan_of fs) ≤ max_layout = omega (arith, m.short) in
    let planned : Judged (meant fs) fs (plan_fields true (plan_of fs)) = plan-packs fs found.0 0 in
    let reads : plan_fields false (plan_of fs) ≡ fields_of false layout = plan-reads fs found.0 0 ∙ sym m.are in
    rw m.is
    (record {
      packs =
          λ slots area output.
          rw (pack-fields layout slots area output, pack-sized (length (plan_of fs)) (length layout) (plan_fields true (plan_of fs)) small m.short slots area output)
          (alike (meant fs) fs (length layout) (plan_fields true (plan_of fs)) (fields_of true layout) planned found.1 slots area output);
      packs-same =
          λ gs e slots area output.
          pack-sized (length (plan_of fs)) (length layout) (plan_fields true (plan_of fs)) small m.short slots area output
          ∙ ap (λ (r : Result (List Field)). pack_fields (length layout) r slots area output)
          (accepted (meant fs) fs gs (plan_fields true (plan_of fs)) (fields_of true layout) planned found.1 e)
          ∙ sym (pack-fields layout slots area output);
      reads =
          λ bs slots area mark.
          read-sized (length (plan_of fs)) (length layout) (plan_fields false (plan_of fs)) small m.short bs slots area mark
          ∙ ap (λ (r : Result (List Field)). read_fields (length layout) r bs slots area mark) reads
          ∙ sym (read-fields layout bs slots area mark);
    })

pub plan-is-layout : PlanIsLayout
plan-is-layout layout run z = stands layout (made_by (prepare layout run)) (made layout run z)

pub plan-of-fields : PlanOfFields
unfolding plan_fields
plan-of-fields plan fs e = plan-of plan 0 fs e
