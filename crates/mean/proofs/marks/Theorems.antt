-- What holds of the mean for all tables: the claims of `specs/Claims.antt`.
use Rattle.std.specs.Prelude.{if◌then◌else◌}
use Prim.Native.Nat.{ℕ, suc, ◌+◌, ◌-◌, ◌*◌, ◌^◌, ◌≤◌, ◌<◌}
use native.Mathlib.Nat.{le_refl, mul-suc, mul-zero}
use native.Mathlib.Omega.{arith}
use mathlib.Core.Path.{◌≡◌, refl, sym, ap, ◌∙◌}
use mathlib.Core.Bool.{Bool, true, false, ◌&&◌}
use mathlib.Core.List.{List, [], ◌∷◌}
use lib.Dec.{eqb, leb}
use lib.IntN.{pos, negsuc}
use borrow.Author.Tests.{leb-true, lt-leb}
use lib.ListN.{length}
use Rattle.layout.specs.declared.Refusal.TheVariants.{BadSize}
use Rattle.layout.specs.Refusals.{Result, ok, refused, ◌>>=◌, number_of}
use Rattle.layout.proofs.Laws.{bound, demanded, ok-inj, no-number-zero}
use Rattle.record.specs.declared.slots.Slot.{Slot}
use Rattle.record.specs.Table.{unset as kind_unset, slots_of, max_slots}
use Rattle.record.specs.Geometry.{table_fits}
use Rattle.record.proofs.Bytes.{All}
use Rattle.record.proofs.Sizes.{table-sized}
use Rattle.record.proofs.Tables.{length-slots}
use Rattle.mean.specs.Mean.{Leg, unset, marked, max_mark, leg_of, legs_of, marks_of, unset_of, sum_of, quotient, mean_of, legs, marks_effect, mean}
use Rattle.mean.specs.Claims.{is_mark, MarkRange, Inserted, none, kept, blank, CountsMore, UnsetCounts, OneMark, least, greatest, Between, MeanBetween, Numeric, MeanNumeric, MeanNearest}
use Rattle.mean.proofs.marks.LegLaws.{Alike, leg-alike, leg-range, InRange}
use Rattle.mean.proofs.marks.WalkLaws.{call-served}
use Rattle.mean.proofs.marks.NearestMean.{quotient-nearest}
use Rattle.mean.proofs.marks.Division.{exact, quotient-one, quotient-number, quotient-above, quotient-below}

-- ---- what a mark is

pub mark-range : MarkRange
mark-range kind x = by (eqb kind 2) (leb (2 ^ 63) x) (λ e. leb-true (2 ^ 63) x e)
  where
    by : (a b : Bool) → (b ≡ true → 2 ^ 63 ≤ x) → leb x max_mark ≡ is_mark (if a && b then negsuc (2 ^ 64 - 1 - x) else pos x)
    by false b h = refl
    by true false h = refl
    by true true h = let above : 2 ^ 63 ≤ x = h refl in lt-leb x max_mark (omega arith)

-- ---- slots that are not set

-- what the walks over the two tables give
abbrev Same : Result (List Leg) → Result (List Leg) → ℕ → Type 0
Same (ok ls) (ok ms) n = (marks_of ms ≡ marks_of ls) × (unset_of ms ≡ unset_of ls + n)
Same (ok ls) (refused w p) n = ⊥
Same (refused v q) (ok ms) n = ⊥
Same (refused v q) (refused w p) n = v ≡ w

both_one : (l : Leg) (ls ms : List Leg) (n : ℕ) → Same (ok ls) (ok ms) n → Same (ok (l ∷ ls)) (ok (l ∷ ms)) n
unfolding marks_of unset_of
both_one unset ls ms n h = (h.0, omega (arith, h.1))
both_one (marked m) ls ms n h = (ap (λ (r : List ℕ). m ∷ r) h.0, h.1)

kept_step : (o p : Result Leg) → Alike o p → (x y : Result (List Leg)) (n : ℕ) → Same x y n
    → Same (o >>= (λ l. x >>= (λ ls. ok (l ∷ ls)))) (p >>= (λ l. y >>= (λ ls. ok (l ∷ ls)))) n
kept_step (ok l) (ok k) e (ok ls) (ok ms) n h = rw (← e) (both_one l ls ms n h)
kept_step (ok l) (ok k) e (ok ls) (refused w p) n h = absurd h
kept_step (ok l) (ok k) e (refused v q) (ok ms) n h = absurd h
kept_step (ok l) (ok k) e (refused v q) (refused w p) n h = h
kept_step (ok l) (refused w p) e x y n h = absurd e
kept_step (refused v q) (ok k) e x y n h = absurd e
kept_step (refused v q) (refused w p) e x y n h = e

blank_step : (x y : Result (List Leg)) (n : ℕ) → Same x y n → Same x (y >>= (λ ls. ok (unset ∷ ls))) (suc n)
unfolding marks_of unset_of
blank_step (ok ls) (ok ms) n h = (h.0, omega (arith, h.1))
blank_step (ok ls) (refused w p) n h = absurd h
blank_step (refused v q) (ok ms) n h = absurd h
blank_step (refused v q) (refused w p) n h = h

blank-leg : (area : List ℕ) (j : ℕ) (s : Slot) → eqb s.kind kind_unset ≡ true → leg_of area j s ≡ ok unset
unfolding leg_of
blank-leg area j s e = rw e

inserted-legs : {ss ts : List Slot} {n : ℕ} → Inserted ss ts n → (area : List ℕ) (i j : ℕ) → Same (legs_of area i ss) (legs_of area j ts) n
unfolding legs_of unset_of
inserted-legs none area i j = (refl, omega arith)
inserted-legs (kept {s = s} {ss = ss} {ts = ts} {n = n} r) area i j =
    kept_step (leg_of area i s) (leg_of area j s) (leg-alike area i j s) (legs_of area (suc i) ss) (legs_of area (suc j) ts) n (inserted-legs r area (suc i) (suc j))
inserted-legs (blank {s = s} {ss = ss} {ts = ts} {n = n} e r) area i j =
    rw (blank-leg area j s e) (blank_step (legs_of area i ss) (legs_of area (suc j) ts) n (inserted-legs r area i (suc j)))

counts-more : (x y : Result (List Leg)) (n : ℕ) → Same x y n → CountsMore (marks_effect x) (marks_effect y) n
unfolding marks_effect
counts-more (ok ls) (ok ms) n h = record { mean = ap mean_of h.0; number = refl; count = λ _. h.1 }
counts-more (ok ls) (refused w p) n h = absurd h
counts-more (refused v q) (ok ms) n h = absurd h
counts-more (refused v q) (refused w p) n h = record { mean = refl; number = ap number_of (sym h); count = λ z. no-number-zero v z }

pub unset-counts : UnsetCounts
unset-counts slots more area n fit fit' i =
    rw (← call-served slots area fit, ← call-served more area fit') (counts-more (legs_of area 0 (slots_of slots)) (legs_of area 0 (slots_of more)) n (inserted-legs i area 0 0))

-- ---- the legs of an accepted table

-- its marks are in range, and there are no more than slots
record Legs (slots : ℕ) (ms : List ℕ) : Type 0 where
  few : length ms ≤ slots
  small : All (λ m. m ≤ max_mark) ms

leg-more : (n : ℕ) (l : Leg) (ls : List Leg) → InRange l → Legs n (marks_of ls) → Legs (suc n) (marks_of (l ∷ ls))
unfolding marks_of
leg-more n unset ls r h = record { few = omega (arith, h.few); small = h.small }
leg-more n (marked m) ls r h = record { few = omega (arith, h.few); small = (r, h.small) }

legs-known : (area : List ℕ) (i : ℕ) (ss : List Slot) (ls : List Leg) → legs_of area i ss ≡ ok ls → Legs (length ss) (marks_of ls)
unfolding legs_of marks_of
legs-known area i [] ls e = rw (← ok-inj e) (record { few = omega arith; small = tt })
legs-known area i (s ∷ ss) ls e =
    let (l, e₁, e₂) = bound (leg_of area i s) _ ls e in
    let (ks, e₃, e₄) = bound (legs_of area (suc i) ss) _ ls e₂ in
    rw (← ok-inj e₄) (leg-more (length ss) l ks (leg-range area i s l e₁) (legs-known area (suc i) ss ks e₃))

call_known : (slots area : List ℕ) (ls : List Leg) → legs slots area ≡ ok ls → Legs max_slots (marks_of ls)
unfolding legs
call_known slots area ls e =
    let x = demanded (table_fits (length slots) (length area)) BadSize 0 _ ls e in
    let k = legs-known area 0 (slots_of slots) ls x.1 in
    record { few = omega (arith, k.few, length-slots slots, (table-sized {slots = length slots} {area = length area} x.0).table); small = k.small }

call-mean : (slots area : List ℕ) (ls : List Leg) → legs slots area ≡ ok ls → (mean slots area).mean ≡ mean_of (marks_of ls)
unfolding mean marks_effect
call-mean slots area ls e = rw e

-- ---- sums

sum-above : (lo : ℕ) (ms : List ℕ) → All (λ m. lo ≤ m) ms → lo * length ms ≤ sum_of ms
unfolding sum_of
sum-above lo [] h = rw mul-zero (le_refl 0)
sum-above lo (m ∷ ms) h = rw mul-suc (omega (arith, h.0, sum-above lo ms h.1))

sum_below : (hi : ℕ) (ms : List ℕ) → All (λ m. m ≤ hi) ms → sum_of ms ≤ hi * length ms
unfolding sum_of
sum_below hi [] h = omega arith
sum_below hi (m ∷ ms) h = rw mul-suc (omega (arith, h.0, sum_below hi ms h.1))

all-least : (m : ℕ) (ms : List ℕ) (lo : ℕ) → lo ≤ least m ms → All (λ k. lo ≤ k) (m ∷ ms)
unfolding least
all-least m [] lo h = (h, tt)
all-least m (k ∷ ms) lo h = (omega arith, all-least k ms lo (omega arith))

all-greatest : (m : ℕ) (ms : List ℕ) (hi : ℕ) → greatest m ms ≤ hi → All (λ k. k ≤ hi) (m ∷ ms)
unfolding greatest
all-greatest m [] hi h = (h, tt)
all-greatest m (k ∷ ms) hi h = (omega arith, all-greatest k ms hi (omega arith))

-- a sum of so few marks is far below 2 ^ 53
sum-small : (ms : List ℕ) → Legs max_slots ms → sum_of ms ≤ exact
sum-small ms k = omega (arith, sum_below max_mark ms k.small, k.few)

-- ---- the mean

module _ (m : ℕ) (ms : List ℕ) (k : Legs max_slots (m ∷ ms)) where
  mean-between : Between m ms (quotient (sum_of (m ∷ ms)) (length (m ∷ ms)))
  mean-between =
      let some : 0 < length (m ∷ ms) = omega arith in
      let small : sum_of (m ∷ ms) ≤ exact = sum-small (m ∷ ms) k in
      let few : length (m ∷ ms) ≤ exact = omega (arith, k.few) in
      record {
        number = quotient-number (sum_of (m ∷ ms)) (length (m ∷ ms)) small some few;
        above = quotient-above (sum_of (m ∷ ms)) (length (m ∷ ms)) small some few (least m ms) (sum-above (least m ms) (m ∷ ms) (all-least m ms (least m ms) (le_refl (least m ms))));
        below = quotient-below (sum_of (m ∷ ms)) (length (m ∷ ms)) small some few (greatest m ms) (sum_below (greatest m ms) (m ∷ ms) (all-greatest m ms (greatest m ms) (le_refl (greatest m ms))));
      }

pub mean-lies-between : MeanBetween
unfolding mean_of
mean-lies-between slots area ls m ms e is =
    let k : Legs max_slots (m ∷ ms) = rw is at (call_known slots area ls e) in
    (quotient (sum_of (m ∷ ms)) (length (m ∷ ms)), call-mean slots area ls e ∙ ap mean_of is, mean-between m ms k)

pub mean-nearest : MeanNearest
unfolding mean_of
mean-nearest slots area ls m ms e is =
    let k : Legs max_slots (m ∷ ms) = rw is at (call_known slots area ls e) in (
      quotient (sum_of (m ∷ ms)) (length (m ∷ ms)),
      call-mean slots area ls e ∙ ap mean_of is,
      quotient-nearest (sum_of (m ∷ ms)) (length (m ∷ ms)) (sum-small (m ∷ ms) k) (omega arith) (omega (arith, k.few)),
    )

pub one-mark : OneMark
unfolding mean_of sum_of
one-mark slots area ls m e is =
    let k : Legs max_slots (m ∷ []) = rw is at (call_known slots area ls e) in
    let s : m + 0 ≡ m = omega arith in
    call-mean slots area ls e ∙ ap mean_of is ∙ rw (s, quotient-one m (omega (arith, k.small.0)))

numeric : (ms : List ℕ) → Legs max_slots ms → Numeric (mean_of ms)
unfolding mean_of
numeric [] k = tt
numeric (m ∷ ms) k = (mean-between m ms k).number

effect-numeric : (o : Result (List Leg)) → ((ls : List Leg) → o ≡ ok ls → Legs max_slots (marks_of ls)) → Numeric (marks_effect o).mean
unfolding marks_effect
effect-numeric (ok ls) h = numeric (marks_of ls) (h ls refl)
effect-numeric (refused why place) h = tt

pub mean-numeric : MeanNumeric
unfolding mean
mean-numeric slots area = effect-numeric (legs slots area) (call_known slots area)
