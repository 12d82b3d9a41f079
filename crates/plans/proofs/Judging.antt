-- The turns of `judge`: the fields so far are those of the numbers before number i, and each turn moves one over.
use Prim.Native.Nat.{ℕ, suc, ◌+◌, ◌≤◌, ◌<◌}
use native.Mathlib.Omega.{arith}
use native.Mathlib.Numerals.{add-one}
use mathlib.Core.Path.{◌≡◌, refl, ap, ◌∙◌}
use mathlib.Core.Bool.{Bool}
use mathlib.Core.List.{List, [], ◌∷◌, ◌++◌, map, map-append, append-nil}
use lib.ListN.{length, get_or, drop, take, drop_of_length-le}
use lib.Seq.{drop-cons, take-suc}
use Rattle.layout.specs.declared.Field.{Field}
use Rattle.layout.specs.declared.Refusal.{Refusal}
use Rattle.std.specs.declared.result.Result.TheVariants.{Ok, Err}
use Rattle.layout.specs.Refusals.{Result, ok, refused, ◌>>=◌}
use Rattle.layout.specs.Layout.{max_layout, slot_count, slots_taken}
use Rattle.layout.specs.Codes.{field_of, code_for}
use Rattle.layout.specs.inside.Parsing.{decoded, Parses}
use Rattle.layout.proofs.Decoded.{decoded-length, slots-more, slots-le}
use Rattle.layout.proofs.Turns.{after, after_none, after_one}
use Rattle.plans.specs.Plans.{planned_field, planned_from, plan_fields}

-- from number i on
abbrev from_on : Bool → List ℕ → ℕ → Result (List Field)
from_on packing plan i = planned_from packing i (drop i plan)

pub record Judging (packing : Bool) (plan : List ℕ) (i taken : ℕ) : Type 0 where
  pub within : i ≤ length plan
  pub less : taken ≤ i
  pub so-far : plan_fields packing plan ≡ after (decoded i plan) (from_on packing plan i)
  pub slots : taken ≡ slot_count (decoded i plan)
  pub codes : map code_for (decoded i plan) ≡ take i plan

module _ (packing : Bool) (plan : List ℕ) where
  pub judging-none : Judging packing plan 0 0
  unfolding decoded slot_count plan_fields
  judging-none = record { within = omega arith; less = omega arith; so-far = after_none (planned_from packing 0 plan); slots = refl; codes = refl }

  module _ (i taken : ℕ) (j : Judging packing plan i taken) where
    pub judging-bad : (why : Refusal) → i < length plan → length plan ≤ max_layout → planned_field packing i (get_or plan i 0) ≡ refused why i → Parses (plan_fields packing plan) (Err (record { why = why; place = i })) plan
    unfolding planned_from
    judging-bad why h room bad =
        let here : from_on packing plan i ≡ refused why i = rw (drop-cons plan i 0 h, bad) in
        let o : plan_fields packing plan ≡ refused why i = j.so-far ∙ ap (after (decoded i plan)) here in
        rw o (record { answer = refl; codes = tt; plan = tt; room = room })

    pub judging-more : (k : ℕ) → i < length plan → planned_field packing i (get_or plan i 0) ≡ ok (field_of (get_or plan i 0))
        → k ≡ slots_taken (field_of (get_or plan i 0)) → code_for (field_of (get_or plan i 0)) ≡ get_or plan i 0
        → Judging packing plan (i + 1) (taken + k)
    unfolding planned_from decoded
    judging-more k h good slot code =
        let w : ℕ = get_or plan i 0 in
        let here : from_on packing plan i ≡ (from_on packing plan (suc i) >>= (λ fs. ok (field_of w ∷ fs))) = rw (drop-cons plan i 0 h, good) in
        let long : take (i + 1) plan ≡ take i plan ++ (w ∷ []) = rw add-one (take-suc plan i 0 h) in
        let d : decoded (i + 1) plan ≡ decoded i plan ++ (field_of w ∷ []) = ap (map field_of) long ∙ map-append field_of (take i plan) (w ∷ []) in
        let on : i + 1 ≡ suc i = omega arith in
        record {
          within = omega arith;
          less = omega (arith, j.less, slot, slots-le (field_of w));
          so-far = j.so-far ∙ ap (after (decoded i plan)) here ∙ after_one (decoded i plan) (field_of w) (from_on packing plan (suc i)) ∙ (rw (d, on));
          slots = rw (d, slots-more (decoded i plan) (field_of w), ← j.slots, slot);
          codes = ap (map code_for) d ∙ map-append code_for (decoded i plan) (field_of w ∷ []) ∙ (rw (long, j.codes, code));
        }

    pub judging-done : length plan ≤ i → length plan ≤ max_layout → Parses (plan_fields packing plan) (Ok (record { count = length plan; slots = taken })) plan
    unfolding planned_from
    judging-done h room =
        let here : from_on packing plan i ≡ ok [] = rw (drop_of_length-le plan h) in
        let o : plan_fields packing plan ≡ ok (decoded i plan) = j.so-far ∙ ap (after (decoded i plan)) here ∙ ap ok (append-nil (decoded i plan)) in
        let l : length (decoded i plan) ≡ i = decoded-length i plan (omega (arith, j.within)) in
        let all : i ≡ length plan = omega (arith, j.within) in
        rw o (record { answer = rw (l, ← j.slots, all) refl; codes = ap (λ (n : ℕ). decoded n plan) l; plan = rw l j.codes; room = room })
