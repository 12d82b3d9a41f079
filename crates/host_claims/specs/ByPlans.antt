-- Demand 3 (document 01), M-107 and M-113 (02) of calls by plans: they are the calls by the layouts, of which each is
-- proved. The plans are such as HostPlanIsLayout makes them. The proofs are in proofs/ByPlans.antt.
use Rattle.std.specs.Prelude.{ℕ, ◌≤◌, ◌≡◌, Bool, List, ◌++◌, T, length, take}
use Rattle.record.specs.Geometry.{sizes_fit}
use Rattle.evolution.specs.Claim.{Layouts, text_of, output_by}
use Rattle.lossless.specs.Claim.{Layout}
use Rattle.host.specs.Numbers.{numbers_in}
use Rattle.host.specs.Host.{reply_size, PackCall, ReadCall}
use Rattle.host_claims.specs.Seen.{result_in, filled_with}
use Rattle.host_claims.specs.ReadBack.{HostLent, argument_bytes, host_packing, host_reading, HostMeant, HostKeepsBack}
use Rattle.host_claims.specs.GivenBack.{HostArchived, host_reading_of, HostLosesNothing}
use Rattle.host_claims.specs.Joined.{HostPart, alone}
use Rattle.host_plans.specs.Calls.{curlew_pack_plan, curlew_read_plan}
use Rattle.host_claims.specs.PlanIsLayout.{HostStandsFor}

-- ---- demand 3

-- a plan of the new layout (true) and one of the old layout (false)
abbrev pub PlansOf : Layouts → (Bool → List ℕ) → Type 0
PlansOf l plan = (b : Bool) → HostStandsFor (text_of l b) (plan b)

-- a record packed by one of the plans, and then cut and read by one of them
abbrev pub packing_by : Layouts → (Bool → List ℕ) → Bool → HostLent → PackCall
packing_by l plan packed c =
    curlew_pack_plan (plan packed) (argument_bytes l packed c) l.area (output_by l packed) c.pack_reply

abbrev pub reading_by : Layouts → (Bool → List ℕ) → Bool → Bool → HostLent → ReadCall
reading_by l plan packed layout c =
    curlew_read_plan (plan layout) (take c.cut (result_in (packing_by l plan packed c))) c.table c.values
    c.mark c.read_reply

pub record KeepsBackBy (l : Layouts) (plan : Bool → List ℕ) (packed layout : Bool) (c : HostLent) : Type 0 where
  pub packs : packing_by l plan packed c ≡ host_packing l packed c
  pub reads : reading_by l plan packed layout c ≡ host_reading l packed layout c
  pub keeps : HostKeepsBack l packed layout c

abbrev pub PlansDemand3 : Type 0
PlansDemand3 =
    (l : Layouts) (plan : Bool → List ℕ) → PlansOf l plan → (packed layout : Bool) (c : HostLent)
    → HostMeant l packed layout c
    → KeepsBackBy l plan packed layout c

-- ---- M-107: read by a plan, and what that leaves packed by it

abbrev pub read_by_plan : (l : Layout) → List ℕ → HostArchived l → ReadCall
read_by_plan l plan r =
    curlew_read_plan plan r.archived.bytes r.slots r.archived.area r.archived.mark r.read_reply

abbrev pub packed_by_plan : (l : Layout) → List ℕ → HostArchived l → PackCall
packed_by_plan l plan r =
    curlew_pack_plan plan (read_by_plan l plan r).slots (read_by_plan l plan r).area r.archived.output r.pack_reply

pub record LosesNothingBy (l : Layout) (plan : List ℕ) : Type 0 where
  pub reads : (r : HostArchived l) → read_by_plan l plan r ≡ host_reading_of l r
  pub gives_back : (r : HostArchived l) → packed_by_plan l plan r ≡ filled_with r.archived.output r.archived.bytes
  pub loses : HostLosesNothing l

abbrev pub PlansLossless : Type 0
PlansLossless = (l : Layout) (plan : List ℕ) → HostStandsFor l.text plan → LosesNothingBy l plan

-- ---- M-113: two parts joined, by the plan of the joined layout, give their results joined

abbrev pub PlansJoined : Type 0
PlansJoined =
    (area : List ℕ) (a b : HostPart area) (plan : List ℕ) → HostStandsFor (a.text ++ b.text) plan
    → (output reply : List ℕ) → length reply ≡ reply_size
    → T (sizes_fit (a.text ++ b.text) (numbers_in (a.slots ++ b.slots)) output area)
    → length (alone a ++ alone b) ≤ length output
    → curlew_pack_plan plan (a.slots ++ b.slots) area output reply ≡ filled_with output (alone a ++ alone b)
