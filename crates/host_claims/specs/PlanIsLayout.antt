-- A PLAN IS ITS LAYOUT for a C program: where curlew_prepare returns 0, curlew_pack_plan and curlew_read_plan by the
-- numbers that it wrote leave and return what curlew_pack and curlew_read do by the layout. The proof is in
-- proofs/PlanIsLayout.antt.
use Rattle.std.specs.Prelude.{ℕ, ◌≡◌, true, List, take}
use Rattle.layout.specs.declared.Field.{Field}
use Rattle.layout.specs.declared.Refusal.TheVariants.{BadMove}
use Rattle.layout.specs.Refusals.{number_of, ok}
use Rattle.layout.specs.Layout.{fields_of}
use Rattle.host.specs.Host.{PackCall}
use Rattle.host_record.specs.Packing.{curlew_pack}
use Rattle.host_record.specs.Reading.{curlew_read}
use Rattle.host_claims.specs.Seen.{replied}
use Rattle.host_plans.specs.Calls.{PrepareCall, curlew_prepare, curlew_pack_plan, curlew_read_plan}

-- the plan: as many numbers of the run as the reply says
abbrev pub plan_in : PrepareCall → List ℕ
plan_in c = take (replied 1 c.reply) c.plan

-- two calls return the same number and leave the same buffer; and the same reply, but where both refuse with 4
pub record HostAlike (p q : PackCall) : Type 0 where
  pub returned : p.returned ≡ q.returned
  pub output : p.output ≡ q.output
  pub reply : (q.returned ≡ number_of BadMove → ⊥) → p.reply ≡ q.reply

pub record HostStandsFor (layout plan : List ℕ) : Type 0 where
  pub packs :
      (slots area output reply : List ℕ)
      → HostAlike (curlew_pack_plan plan slots area output reply) (curlew_pack layout slots area output reply)
  pub packs-same :
      (fs : List Field) → fields_of true layout ≡ ok fs → (slots area output reply : List ℕ)
      → curlew_pack_plan plan slots area output reply ≡ curlew_pack layout slots area output reply
  pub reads :
      (bytes slots area : List ℕ) (mark : ℕ) (reply : List ℕ)
      → curlew_read_plan plan bytes slots area mark reply ≡ curlew_read layout bytes slots area mark reply

abbrev pub HostPlanIsLayout : Type 0
HostPlanIsLayout =
    (layout run reply : List ℕ) → (curlew_prepare layout run reply).returned ≡ 0
    → HostStandsFor layout (plan_in (curlew_prepare layout run reply))
