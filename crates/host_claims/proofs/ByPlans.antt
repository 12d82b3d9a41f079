-- A call by a plan is the call by its layout; the rest is the claim of that.
use mathlib.Core.Path.{◌≡◌, ap, ◌∙◌}
use mathlib.Core.Bool.{Bool, true, false}
use mathlib.Core.List.{List, ◌++◌}
use lib.ListN.{take}
use Rattle.layout.specs.declared.Field.{Field}
use Rattle.layout.specs.Refusals.{ok}
use Rattle.layout.specs.Layout.{fields_of}
use Rattle.evolution.specs.Claim.{Layouts, text_of, output_by}
use Rattle.layout.proofs.Joining.{joined-fields}
use Rattle.host.specs.Host.{PackCall, ReadCall}
use Rattle.host_claims.specs.Seen.{result_in}
use Rattle.host_claims.specs.ReadBack.{argument_bytes}
use Rattle.host_claims.specs.GivenBack.{host_reading_of}
use Rattle.host_claims.proofs.ReadBack.{host-demand3}
use Rattle.host_claims.proofs.GivenBack.{host-lossless}
use Rattle.host_claims.proofs.Joined.{host-joined}
use Rattle.host_plans.specs.Calls.{curlew_pack_plan, curlew_read_plan}
use Rattle.host_claims.specs.ByPlans.{read_by_plan, PlansDemand3, PlansLossless, PlansJoined}

old-or-new : (l : Layouts) (b : Bool) → (fs : List Field) × (fields_of true (text_of l b) ≡ ok fs)
old-or-new l true = (l.fields ++ l.added, l.new-fields)
old-or-new l false = (l.fields, l.old-fields)

pub plans-demand3 : PlansDemand3
plans-demand3 l plan stand packed layout c m =
    let (fs, e) = old-or-new l packed in
    let packs = (stand packed).packs-same fs e (argument_bytes l packed c) l.area (output_by l packed) c.pack_reply in
    record {
      packs = packs;
      reads =
          ap (λ (p : PackCall). curlew_read_plan (plan layout) (take c.cut (result_in p)) c.table c.values c.mark c.read_reply) packs
          ∙ (stand layout).reads _ c.table c.values c.mark c.read_reply;
      keeps = host-demand3 l packed layout c m;
    }

pub plans-lossless : PlansLossless
plans-lossless l plan stand =
    let nothing = host-lossless l in
    record {
      reads = λ r. stand.reads r.archived.bytes r.slots r.archived.area r.archived.mark r.read_reply;
      gives_back =
          λ r.
          let read : read_by_plan l plan r ≡ host_reading_of l r = stand.reads r.archived.bytes r.slots r.archived.area r.archived.mark r.read_reply in
          ap (λ (c : ReadCall). curlew_pack_plan plan c.slots c.area r.archived.output r.pack_reply) read
          ∙ stand.packs-same l.fields l.has-fields (host_reading_of l r).slots (host_reading_of l r).area r.archived.output r.pack_reply
          ∙ nothing.gives_back r;
      loses = nothing;
    }

pub plans-joined : PlansJoined
plans-joined area a b plan stand output reply sized fits room =
    stand.packs-same (a.fields ++ b.fields) (joined-fields true a.text b.text a.fields b.fields a.has-fields b.has-fields) (a.slots ++ b.slots) area output reply
    ∙ (host-joined area).two a b output reply sized fits room
