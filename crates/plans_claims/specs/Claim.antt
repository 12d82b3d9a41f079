-- A PLAN IS ITS LAYOUT: where `prepare` accepts a layout, packing and reading by the plan leave and answer what they do
-- by the layout, whatever they are lent. One place differs: `x*` is good for reading and so in a plan, and packing
-- refuses it by the plan at the number of its field. The proof is in proofs/Claims.antt.
use Rattle.std.specs.Prelude.{ℕ, ◌≡◌, true, false, List, take}
use Rattle.layout.specs.declared.Field.{Field}
use Rattle.layout.specs.declared.Refusal.TheVariants.{BadMove}
use Rattle.layout.specs.Refusals.{number_of, ok}
use Rattle.layout.specs.Layout.{fields_of}
use Rattle.record.specs.Packing.{Packed, pack}
use Rattle.record.specs.Reading.{read_all}
use Rattle.plans.specs.Plans.{plan_of, plan_fields, Planned, prepare, pack_plan, read_plan}

-- the plan at the front of the run, where a layout was accepted
abbrev pub made_by : Planned → List ℕ
made_by x = take x.answer.first x.plan

-- two packings leave the same and answer the same, but for the place where both refuse with 4
pub record Alike (p q : Packed) : Type 0 where
  pub number : p.answer.number ≡ q.answer.number
  pub place : (q.answer.number ≡ number_of BadMove → ⊥) → p.answer.first ≡ q.answer.first
  pub second : p.answer.second ≡ q.answer.second
  pub output : p.output ≡ q.output

pub record StandsFor (layout plan : List ℕ) : Type 0 where
  -- packing by the plan and by the layout are alike, of any slots over any area into any buffer
  pub packs : (slots area output : List ℕ) → Alike (pack_plan plan slots area output) (pack layout slots area output)
  -- where the layout is good for packing, the two packings have no difference at all
  pub packs-same :
      (fs : List Field) → fields_of true layout ≡ ok fs → (slots area output : List ℕ)
      → pack_plan plan slots area output ≡ pack layout slots area output
  -- reading by the plan, of any record into any slots and any area from any mark on, is reading by the layout
  pub reads :
      (bs slots area : List ℕ) (mark : ℕ) → read_plan plan bs slots area mark ≡ read_all layout bs slots area mark

abbrev pub PlanIsLayout : Type 0
PlanIsLayout =
    (layout run : List ℕ) → (prepare layout run).answer.number ≡ 0 → StandsFor layout (made_by (prepare layout run))

-- A plan that is served is the plan of its fields: no two plans have the same fields.
abbrev pub PlanOfFields : Type 0
PlanOfFields = (plan : List ℕ) (fs : List Field) → plan_fields false plan ≡ ok fs → plan_of fs ≡ plan
