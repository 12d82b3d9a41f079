-- Inside the calls: what is left once the sizes fit, and once the plan is judged.
use Rattle.std.specs.Prelude.{ℕ, ◌/◌, ◌%◌, ◌≤◌, ◌≡◌, true, false, List, length}
use Rattle.layout.specs.declared.Fields.{Fields}
use Rattle.layout.specs.declared.Refused.{Refused}
use Rattle.std.specs.declared.result.Result as Std
use Rattle.layout.specs.Refusals.{ok}
use Rattle.layout.specs.Layout.{slot_count}
use Rattle.layout.specs.inside.Parsing.{decoded, Parses}
use Rattle.record.specs.declared.Answer.{Answer}
use Rattle.record.specs.Table.{max_record}
use Rattle.record.specs.Geometry.{lengths_fit}
use Rattle.pack_check.specs.inside.measuring.{Prepared}
use Rattle.packer.specs.inside.passes.{finishes}
use Rattle.reader.specs.inside.Sizes.{read_lent_fits}
use Rattle.host.specs.Numbers.{number_size, numbers_in}
use Rattle.host.specs.Host.{slot_size, long_reply_size}
use Rattle.host_record.specs.Reading.{steps_call}
use Rattle.plans.specs.Plans.{plan_fields, pack_plan, read_plan}

-- ---- packing

-- the sizes fit, the slots are whole, and p is what the plan was judged as
pub record PackJudged (p : Std.Result Fields Refused) (plan slots area output : List ℕ) : Type 0 where
  pub whole : length slots % slot_size ≡ 0
  pub fine : lengths_fit (length plan) (length slots / number_size) (length output) (length area) ≡ true
  pub parsed : Parses (plan_fields true plan) p plan

abbrev pub PacksByPlan : List ℕ → List ℕ → List ℕ → List ℕ → List ℕ → Answer → Type 0
PacksByPlan plan slots area out out' a =
    record { answer = a; output = out' }
    ≡ pack_plan plan (numbers_in slots) area out

-- the numbers of the plan are fields, and there is a slot for each that takes one
pub record Packable (plan slots output : List ℕ) : Type 0 where
  pub whole : length slots % slot_size ≡ 0
  pub prepared : Prepared plan (numbers_in slots)
  pub room : length output ≤ max_record

abbrev pub PlanPacks : List ℕ → List ℕ → List ℕ → List ℕ → List ℕ → Answer → Type 0
PlanPacks plan slots area out out' a =
    record { answer = a; output = out' }
    ≡ finishes plan (numbers_in slots) area out

-- ---- reading

-- the sizes fit, the slots are whole, and p is what the plan was judged as
pub record ReadJudged (p : Std.Result Fields Refused) (plan bytes slots area : List ℕ) (mark : ℕ) (reply : List ℕ) : Type 0 where
  pub sized : length reply ≡ long_reply_size
  pub whole : length slots % slot_size ≡ 0
  pub fine : read_lent_fits (length plan) (length slots / number_size) (length bytes) (length area) mark ≡ true
  pub parsed : Parses (plan_fields false plan) p plan

abbrev pub ReadsByPlan : List ℕ → List ℕ → List ℕ → List ℕ → List ℕ → List ℕ → ℕ → List ℕ → List ℕ → ℕ → Type 0
ReadsByPlan plan bytes slots slots' area area' mark reply reply' r =
    record { returned = r; slots = slots'; area = area'; reply = reply' }
    ≡ steps_call slots (read_plan plan bytes (numbers_in slots) area mark)

-- the plan has as many fields as f counts, and as many of them take a slot
pub record PlanReady (f : Fields) (plan bytes slots area : List ℕ) (mark : ℕ) (reply : List ℕ) : Type 0 where
  pub sized : length reply ≡ long_reply_size
  pub whole : length slots % slot_size ≡ 0
  pub fine : read_lent_fits (length plan) (length slots / number_size) (length bytes) (length area) mark ≡ true
  pub fields : plan_fields false plan ≡ ok (decoded f.count plan)
  pub count : f.slots ≡ slot_count (decoded f.count plan)
  pub few : f.count ≤ length plan
