-- The walk on plain values: one slot, and what its loop keeps.
use Rattle.std.specs.Prelude.{Float, Option, None, Ok, Err}
use Prim.Native.Nat.{ℕ, suc, ◌+◌, ◌*◌, ◌/◌, ◌≤◌, ◌<◌}
use native.Mathlib.Nat.{zero-add, add-zero, suc-ne-zero}
use native.Mathlib.Omega.{arith}
use mathlib.Core.Path.{◌≡◌, refl, sym, ap, ◌∙◌}
use mathlib.Core.Bool.{true, false}
use mathlib.Core.List.{List, [], ◌∷◌}
use borrow.Author.Tests.{ne_eqb}
use lib.ListN.{length, drop, drop_of_length-le}
use Rattle.record.specs.declared.Answer.{Answer}
use Rattle.layout.specs.declared.Refusal.TheVariants.{BadSize}
use Rattle.layout.specs.Refusals.{Result, ok, refused, ◌>>=◌}
use Rattle.record.specs.Table.{slots_of, slot_width, max_slots}
use Rattle.record.specs.Geometry.{table_fits}
use Rattle.record.specs.Packing.{accepted, refusal}
use Rattle.record.specs.Slots.{slot_at}
use Rattle.record.proofs.Sizes.{table-sized}
use Rattle.record.proofs.Tables.{length-slots}
use Rattle.record.proofs.SlotLaws.{slot-here}
use Rattle.mean.specs.declared.marks.Marks.{Marks}
use Rattle.mean.specs.declared.marks.Tally.{Tally}
use Rattle.mean.specs.Mean.{Leg, unset, marked, leg_of, legs_of, marks_of, unset_of, sum_of, mean_of, legs, marks_effect, mean}
use Rattle.mean.specs.inside.Walk.{counted, turn_of, tallied, outcome, none, mean_of_tally, Near}
use Rattle.mean.proofs.marks.LegLaws.{turn-next, turn-stop, leg-range, InRange}

-- ---- a walk that has counted t, over the rest of the legs

-- what the walk has counted in the end
added : Tally → List Leg → Tally
added t ls = record { sum = t.sum + sum_of (marks_of ls); marked = t.marked + length (marks_of ls); unset = t.unset + unset_of ls }

tally-is : (t : Tally) (ls : List Leg) → tallied t ls ≡ added t ls
unfolding tallied added marks_of sum_of unset_of
tally-is t [] = simp add-zero
tally-is t (unset ∷ ls) =
    let e : t.unset + 1 + unset_of ls ≡ t.unset + suc (unset_of ls) = omega arith in
    tally-is (counted t unset) ls ∙ rw e
tally-is t (marked m ∷ ls) =
    let e : t.sum + m + sum_of (marks_of ls) ≡ t.sum + (m + sum_of (marks_of ls)) = omega arith in
    let d : t.marked + 1 + length (marks_of ls) ≡ t.marked + suc (length (marks_of ls)) = omega arith in
    tally-is (counted t (marked m)) ls ∙ rw (e, d)

mean-is : (ms : List ℕ) (u : ℕ) → mean_of_tally (record { sum = sum_of ms; marked = length ms; unset = u }) ≡ mean_of ms
unfolding mean_of
mean-is [] u = refl
mean-is (m ∷ ms) u = rw (ne_eqb (suc (length ms)) 0 (suc-ne-zero (length ms)))

added-none : (ls : List Leg) → added none ls ≡ record { sum = sum_of (marks_of ls); marked = length (marks_of ls); unset = unset_of ls }
unfolding added
added-none ls = simp zero-add

abbrev answered : ℕ → Option Float → Marks
answered n x = record { answer = accepted n 0; mean = x }

-- what the call answers by its tally
pub call-done : (slots area : List ℕ) (t : Tally) → Ok t ≡ outcome none (legs slots area) → record { answer = accepted t.unset 0; mean = mean_of_tally t } ≡ mean slots area
unfolding mean marks_effect
call-done slots area t e = by (legs slots area) e
  where
    by : (o : Result (List Leg)) → Ok t ≡ outcome none o → record { answer = accepted t.unset 0; mean = mean_of_tally t } ≡ marks_effect o
    by (ok ls) h =
        let d : t ≡ tallied none ls = cc in
        rw (d, tally-is none ls, added-none ls) (ap (λ (x : Option Float). answered (unset_of ls) x) (mean-is (marks_of ls) (unset_of ls)))
    by (refused why place) h = cc

pub call-refused : (slots area : List ℕ) (a : Answer) → Err a ≡ outcome none (legs slots area) → record { answer = a; mean = None } ≡ mean slots area
unfolding mean marks_effect
call-refused slots area a e = by (legs slots area) e
  where
    by : (o : Result (List Leg)) → Err a ≡ outcome none o → record { answer = a; mean = None } ≡ marks_effect o
    by (ok ls) h = cc
    by (refused why place) h = let d : a ≡ refusal why place = cc in rw d

-- ---- one slot

leg-counted : (t : Tally) (l : Leg) (o : Result (List Leg)) → outcome t (o >>= (λ ls. ok (l ∷ ls))) ≡ outcome (counted t l) o
unfolding tallied
leg-counted t l (ok ls) = refl
leg-counted t l (refused why place) = refl

-- ---- the sizes

pub sizes-refused : (ns area : List ℕ) → table_fits (length ns) (length area) ≡ false → Err (refusal BadSize 0) ≡ outcome none (legs ns area)
unfolding legs
sizes-refused ns area e = rw e

pub sizes-kept : (ns area : List ℕ) → table_fits (length ns) (length area) ≡ true → legs_of area 0 (slots_of ns) ≡ legs ns area
unfolding legs
sizes-kept ns area e = rw e

pub call-served : (ns area : List ℕ) → table_fits (length ns) (length area) ≡ true → marks_effect (legs_of area 0 (slots_of ns)) ≡ mean ns area
unfolding mean
call-served ns area e = ap marks_effect (sizes-kept ns area e)

-- ---- the loop

-- the walk from slot k on gives what the walk from the start gives
pub record Walking (area ns : List ℕ) (k : ℕ) (t : Tally) : Type 0 where
  pub within : k ≤ length ns / slot_width
  pub near : Near k t
  pub table : length ns ≤ slot_width * max_slots
  pub same : outcome t (legs_of area k (drop k (slots_of ns))) ≡ outcome none (legs ns area)

near_next : (k : ℕ) (t : Tally) (l : Leg) → Near k t → k < max_slots → InRange l → Near (k + 1) (counted t l)
near_next k t unset n h r = record { few = omega arith; sum = omega (arith, n.sum); marked = omega (arith, n.marked); unset = omega (arith, n.unset) }
near_next k t (marked m) n h r = record { few = omega arith; sum = omega (arith, n.sum); marked = omega (arith, n.marked); unset = omega (arith, n.unset) }

module _ (area ns : List ℕ) where
  pub walking-none : table_fits (length ns) (length area) ≡ true → Walking area ns 0 none
  walking-none fits = record {
    within = omega arith;
    near = record { few = omega arith; sum = omega arith; marked = omega arith; unset = omega arith };
    table = (table-sized {area = length area} fits).table;
    same = ap (outcome none) (sizes-kept ns area fits);
  }

  module _ (k : ℕ) (t : Tally) (w : Walking area ns k t) where
    pub walking-done : length ns / slot_width ≤ k → Ok t ≡ outcome none (legs ns area)
    unfolding legs_of tallied
    walking-done h =
        let all : length (slots_of ns) ≤ k = rw length-slots h in
        let e : drop k (slots_of ns) ≡ [] = drop_of_length-le (slots_of ns) all in
        rw e at w.same

    module _ (l : k < length ns / slot_width) where
      pub slot-there : slot_width * k + slot_width ≤ length ns
      slot-there = omega arith

      here : drop k (slots_of ns) ≡ slot_at ns k ∷ drop (k + 1) (slots_of ns)
      here = slot-here ns k slot-there

      onward : outcome t (leg_of area k (slot_at ns k) >>= (λ x. legs_of area (suc k) (drop (k + 1) (slots_of ns)) >>= (λ xs. ok (x ∷ xs)))) ≡ outcome none (legs ns area)
      unfolding legs_of
      onward = rw here at w.same

      pub walking-stop : (a : Answer) → Err a ≡ turn_of t (leg_of area k (slot_at ns k)) → Err a ≡ outcome none (legs ns area)
      walking-stop a e =
          let (why, place, o, is) = turn-stop t a (leg_of area k (slot_at ns k)) e in
          rw is (rw o at onward)

      pub walking-next : (u : Tally) → Ok u ≡ turn_of t (leg_of area k (slot_at ns k)) → Walking area ns (k + 1) u
      walking-next u e =
          let (leg, o, is) = turn-next t u (leg_of area k (slot_at ns k)) e in
          let on : k + 1 ≡ suc k = omega arith in
          rw is
          (record {
            within = omega arith;
            table = w.table;
            near = near_next k t leg w.near (omega (arith, w.table)) (leg-range area k (slot_at ns k) leg o);
            same = let f : legs_of area (k + 1) (drop (k + 1) (slots_of ns)) ≡ legs_of area (suc k) (drop (k + 1) (slots_of ns)) = rw on in
                rw f (sym (leg-counted t leg (legs_of area (suc k) (drop (k + 1) (slots_of ns)))) ∙ (rw o at onward));
          })
