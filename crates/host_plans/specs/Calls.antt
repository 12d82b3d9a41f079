-- Layouts prepared once, for a C host (document 01, Slot tables). THE EFFECTS OF THE CALLS are `curlew_prepare`,
-- `curlew_pack_plan` and `curlew_read_plan`. A plan is lent as numbers; slots and replies are bytes, as in the calls by a
-- layout.
use Rattle.std.specs.Prelude.{ℕ, ◌≡◌, List, eqb, length, if◌then◌else◌}
use Rattle.layout.specs.declared.Refusal.TheVariants.{BadSize}
use Rattle.layout.specs.Refusals.{number_of}
use Rattle.record.specs.Packing.{refusal}
use Rattle.host.specs.Numbers.{numbers_in}
use Rattle.host.specs.Host.{reply_size, long_reply_size, reply_of, PackCall, pack_call, ReadCall, guarded}
use Rattle.host_record.specs.Reading.{steps_call}
use Rattle.plans.specs.Plans.{Planned, prepare, pack_plan, read_plan}

-- ---- a layout prepared

-- all that a call leaves: the number that it returns, every number of the run for the plan, and every byte of the reply
pub record PrepareCall : Type 0 where
  pub returned : ℕ
  pub plan : List ℕ
  pub reply : List ℕ

abbrev pub prepare_call : Planned → PrepareCall
prepare_call x = record { returned = x.answer.number; plan = x.plan; reply = reply_of x.answer }

-- the call; a reply of another size than the call's own: nothing is written
unfoldable pub curlew_prepare : List ℕ → List ℕ → List ℕ → PrepareCall
unfolding reply_of prepare
curlew_prepare layout run reply =
    if eqb (length reply) reply_size then prepare_call (prepare layout run)
    else record { returned = number_of BadSize; plan = run; reply = reply }

-- ---- packing and reading by a plan

unfoldable pub curlew_pack_plan : List ℕ → List ℕ → List ℕ → List ℕ → List ℕ → PackCall
unfolding pack_call numbers_in pack_plan
curlew_pack_plan plan slots area output reply =
    guarded reply_size reply slots
    (record { returned = number_of BadSize; output = output; reply = reply })
    (pack_call (record { answer = refusal BadSize 0; output = output }))
    (pack_call (pack_plan plan (numbers_in slots) area output))

unfoldable pub curlew_read_plan : List ℕ → List ℕ → List ℕ → List ℕ → ℕ → List ℕ → ReadCall
unfolding steps_call numbers_in read_plan
curlew_read_plan plan bytes slots area mark reply =
    guarded long_reply_size reply slots
    (record { returned = number_of BadSize; slots = slots; area = area; reply = reply })
    (steps_call slots
    (record { answer = record { answer = refusal BadSize 0; steps = 0 }; slots = numbers_in slots; area = area }))
    (steps_call slots (read_plan plan bytes (numbers_in slots) area mark))

-- ---- what a call promises that returned r

abbrev pub HostPrepares : List ℕ → List ℕ → List ℕ → List ℕ → List ℕ → ℕ → Type 0
HostPrepares layout plan plan' reply reply' r =
    record { returned = r; plan = plan'; reply = reply' }
    ≡ curlew_prepare layout plan reply

abbrev pub HostPacksPlan : List ℕ → List ℕ → List ℕ → List ℕ → List ℕ → List ℕ → List ℕ → ℕ → Type 0
HostPacksPlan plan slots area out out' reply reply' r =
    record { returned = r; output = out'; reply = reply' }
    ≡ curlew_pack_plan plan slots area out reply

abbrev pub HostReadsPlan : List ℕ → List ℕ → List ℕ → List ℕ → List ℕ → List ℕ → ℕ → List ℕ → List ℕ → ℕ → Type 0
HostReadsPlan plan bytes slots slots' area area' mark reply reply' r =
    record { returned = r; slots = slots'; area = area'; reply = reply' }
    ≡ curlew_read_plan plan bytes slots area mark reply
