-- The calls for a C program hand on the calls on numbers, so that what holds of those holds of them.
use Rattle.std.specs.Prelude.{if◌then◌else◌}
use Prim.Native.Nat.{ℕ, ◌%◌, ◌<◌}
use mathlib.Core.Path.{◌≡◌, refl, sym, ap, subst}
use mathlib.Core.Bool.{Bool, true, false}
use mathlib.Core.List.{List, [], ◌∷◌}
use lib.Dec.{eqb}
use lib.ListN.{length, take}
use Rattle.layout.specs.declared.Refusal.TheVariants.{BadSize}
use Rattle.layout.specs.Refusals.{number_of}
use Rattle.layout.proofs.Laws.{no-number-zero}
use Rattle.record.specs.declared.Answer.{Answer}
use Rattle.record.specs.Packing.{Packed, refusal}
use Rattle.record.specs.Reading.{ReadAll}
use Rattle.host.specs.Host.{slot_size, reply_size, long_reply_size, reply_of, PackCall, pack_call, guarded}
use Rattle.host.specs.Numbers.{numbers_in}
use Rattle.host_record.specs.Packing.{curlew_pack}
use Rattle.host_record.specs.Reading.{steps_call, curlew_read}
use Rattle.host_record.proofs.read.Theorems.{second-number}
use Rattle.plans.specs.Plans.{prepare}
use Rattle.plans_claims.specs.Claim.{made_by, Alike, StandsFor}
use Rattle.plans_claims.proofs.Claims.{plan-is-layout, made-few}
use Rattle.host_plans.specs.Calls.{prepare_call, curlew_prepare, curlew_pack_plan, curlew_read_plan}
use Rattle.host_claims.specs.PlanIsLayout.{plan_in, HostAlike, HostStandsFor, HostPlanIsLayout}

-- ---- packing

alike-call : {p q : Packed} → Alike p q → HostAlike (pack_call p) (pack_call q)
unfolding pack_call reply_of
alike-call h = record {
  returned = h.number;
  output = h.output;
  reply = λ other. let first = h.place other in rw (h.number, first, h.second);
}

alike_same : {p q : PackCall} → p ≡ q → HostAlike p q
alike_same e = rw e (record { returned = refl; output = refl; reply = λ h. refl })

guarded-alike : (a b : Bool) (x y : PackCall) {p q : PackCall} → HostAlike p q → HostAlike (if a then (if b then p else y) else x) (if a then (if b then q else y) else x)
guarded-alike true true x y h = h
guarded-alike true false x y h = alike_same refl
guarded-alike false b x y h = alike_same refl

stands : (layout plan : List ℕ) → StandsFor layout plan → HostStandsFor layout plan
unfolding curlew_pack_plan curlew_pack curlew_read_plan curlew_read
stands layout plan s = record {
  packs =
      λ slots area output reply.
      guarded-alike (eqb (length reply) reply_size) (eqb (length slots % slot_size) 0) (record { returned = number_of BadSize; output = output; reply = reply })
      (pack_call (record { answer = refusal BadSize 0; output = output })) (alike-call (s.packs (numbers_in slots) area output));
  packs-same = λ fs e slots area output reply. rw (s.packs-same fs e (numbers_in slots) area output);
  reads =
      λ bytes slots area mark reply.
      ap
      (λ (x : ReadAll). guarded long_reply_size reply slots (record { returned = number_of BadSize; slots = slots; area = area; reply = reply })
      (steps_call slots (record { answer = record { answer = refusal BadSize 0; steps = 0 }; slots = numbers_in slots; area = area })) (steps_call slots x))
      (s.reads bytes (numbers_in slots) area mark);
}

-- ---- the plan that the reply tells of

prepared : (layout run reply : List ℕ) → (curlew_prepare layout run reply).returned ≡ 0
    → ((prepare layout run).answer.number ≡ 0) × (plan_in (curlew_prepare layout run reply) ≡ made_by (prepare layout run))
unfolding curlew_prepare reply_of
prepared layout run reply z = go (eqb (length reply) reply_size) z
  where
    go : (t : Bool) → (if t then prepare_call (prepare layout run) else record { returned = number_of BadSize; plan = run; reply = reply }).returned ≡ 0
        → ((prepare layout run).answer.number ≡ 0)
        × (plan_in (if t then prepare_call (prepare layout run) else record {
          returned = number_of BadSize;
          plan = run;
          reply = reply;
        }) ≡ made_by (prepare layout run))
    go true z =
        let a : Answer = (prepare layout run).answer in
        let few : a.first < 4294967296 = made-few layout run z in
        (z, ap (λ (n : ℕ). take n (prepare layout run).plan) (second-number a.number a.first (a.second ∷ []) few))
    go false z = no-number-zero BadSize z

pub host-plan-is-layout : HostPlanIsLayout
host-plan-is-layout layout run reply z =
    let (accepted, is) = prepared layout run reply z in
    subst (λ (plan : List ℕ). HostStandsFor layout plan) (sym is) (stands layout (made_by (prepare layout run)) (plan-is-layout layout run accepted))
