-- Fields at the front of a layout: what the loops over codes keep, and that the place of the first field that breaks a
-- promise, or differs, is the place of the one after them.
use Rattle.std.specs.Prelude.{if◌then◌else◌}
use Prim.Native.Nat.{ℕ, suc, ◌+◌, ◌*◌, ◌≤◌, ◌<◌, min}
use native.Mathlib.Omega.{arith}
use native.Mathlib.Nat.{zero-add, lt_of_not-le}
use native.Mathlib.Decide.{dec_le}
use mathlib.Core.Path.{◌≡◌, refl, ◌∙◌}
use mathlib.Core.Bool.{Bool, true, false}
use mathlib.Core.List.{List, [], ◌∷◌}
use lib.ListN.{length, get_or, drop}
use Rattle.layout.specs.declared.Role.{Role}
use Rattle.layout.specs.declared.Role.TheVariants.{Data, Move}
use Rattle.layout.specs.declared.Motion.TheVariants.{Skip, Back, Goto}
use Rattle.layout.specs.declared.Count.{Count}
use Rattle.layout.specs.declared.Field.{Field}
use Rattle.layout.specs.Codes.{field_of}
use Rattle.layout.specs.inside.Parsing.{FitRole, FitCount, FieldOf, decoded}
use Rattle.layout.proofs.Decoded.{next_field, no_field, slots-le}
use Rattle.record.specs.Geometry.{amount}
use Rattle.record.proofs.Bounds.{bytes_small}
use Rattle.record.proofs.Moves.{amount-small}
use Rattle.runs.specs.Ends.{fills}
use Rattle.promises.specs.declared.Reach.{Reach}
use Rattle.promises.specs.Placed.{Placed, fields_in, place_of}
use Rattle.promises.specs.Promises.{Promise, reach_start, reach_with, nowhere, break_from, first_break, same_field, first_difference}
use Rattle.promises.specs.inside.Walk.{kept_front, code_reach, same_front}

-- ---- the loop over one layout's codes, in front of field i, with the fields before it come so far

pub record Kept (q : Promise) (n : ℕ) (ws : List ℕ) (i : ℕ) (r : Reach) : Type 0 where
  pub within : i ≤ n
  pub few : r.slots ≤ i
  pub near : r.end ≤ i * code_reach
  pub so-far : kept_front q reach_start (decoded n ws) ≡ i + kept_front q r (drop i (decoded n ws))

pub kept-none : (q : Promise) (n : ℕ) (ws : List ℕ) → Kept q n ws 0 reach_start
kept-none q n ws = record { within = omega arith; few = omega arith; near = omega arith; so-far = rw zero-add }

-- one field takes the end no further than its reach
pub one-near : (k : Role) (n : Count) → FitRole k → FitCount n → fills k n ≤ code_reach
unfolding fills
one-near (Data s) n h l = omega (arith, bytes_small s (amount n 0) h, amount-small n 0 l)
one-near (Move Skip) n h l = omega (arith, amount-small n 0 l)
one-near (Move Back) n h l = omega arith
one-near (Move Goto) n h l = omega arith

module _ (q : Promise) (n : ℕ) (ws : List ℕ) (few : n ≤ length ws) where
  module _ (i : ℕ) (r : Reach) (k : Kept q n ws i r) where
    -- its field f, how far the layout has come with it, and whether it keeps the promise
    module _ (h : i < n) (f : Field) (fit : FieldOf (get_or ws i 0) f) (s : Reach) (far : s ≡ reach_with r f) (t : Bool)
        (told : t ≡ q s f) where
      here : kept_front q r (drop i (decoded n ws))
          ≡ (if t then suc (kept_front q s (drop (i + 1) (decoded n ws))) else 0)
      unfolding kept_front
      here = rw (next_field n ws few i h, ← fit.same, ← far, ← told)

      pub kept-stop : t ≡ false → i ≡ kept_front q reach_start (decoded n ws)
      kept-stop e = let none : kept_front q r (drop i (decoded n ws)) ≡ 0 = here ∙ rw e in omega (arith, k.so-far)

      pub kept_more : t ≡ true → Kept q n ws (i + 1) s
      kept_more e =
          let one : kept_front q r (drop i (decoded n ws)) ≡ suc (kept_front q s (drop (i + 1) (decoded n ws))) =
          here ∙ rw e in
          record {
            within = omega arith;
            few = rw far (omega (arith, k.few, slots-le f));
            near = rw far (omega (arith, k.near, one-near f.role f.count fit.role fit.count));
            so-far = omega (arith, k.so-far);
          }

    pub kept-done : n ≤ i → i ≡ kept_front q reach_start (decoded n ws)
    unfolding kept_front
    kept-done h =
        let here : kept_front q r (drop i (decoded n ws)) ≡ 0 = rw (no_field n ws few i h) in
        omega (arith, k.so-far)

-- ---- the loop over the codes of two

pub record Alike (m : ℕ) (vs : List ℕ) (n : ℕ) (ws : List ℕ) (i : ℕ) : Type 0 where
  pub within : i ≤ min m n
  pub so-far : same_front (decoded m vs) (decoded n ws) ≡ i + same_front (drop i (decoded m vs)) (drop i (decoded n ws))

pub alike-none : (m : ℕ) (vs : List ℕ) (n : ℕ) (ws : List ℕ) → Alike m vs n ws 0
alike-none m vs n ws = record { within = omega arith; so-far = rw zero-add }

-- none is the same as one that is not there
front-none : (fs : List Field) → same_front fs [] ≡ 0
unfolding same_front
front-none [] = refl
front-none (f ∷ fs) = refl

module _ (m : ℕ) (vs : List ℕ) (few : m ≤ length vs) (n : ℕ) (ws : List ℕ) (few' : n ≤ length ws) where
  module _ (i : ℕ) (k : Alike m vs n ws i) where
    pub alike-stop : i < min m n → same_field (field_of (get_or vs i 0)) (field_of (get_or ws i 0)) ≡ false → i ≡ same_front (decoded m vs) (decoded n ws)
    unfolding same_front
    alike-stop h e =
        let here : same_front (drop i (decoded m vs)) (drop i (decoded n ws)) ≡ 0 = rw (next_field m vs few i (omega arith), next_field n ws few' i (omega arith), e) in
        omega (arith, k.so-far)

    pub alike-more : i < min m n → same_field (field_of (get_or vs i 0)) (field_of (get_or ws i 0)) ≡ true → Alike m vs n ws (i + 1)
    unfolding same_front
    alike-more h e =
        let here : same_front (drop i (decoded m vs)) (drop i (decoded n ws)) ≡ suc
        (same_front (drop (i + 1) (decoded m vs)) (drop (i + 1) (decoded n ws))) = rw (
          next_field m vs few i
              (omega arith),
          next_field n ws few' i (omega arith),
          e,
        ) in
        record { within = omega arith; so-far = omega (arith, k.so-far) }

    alike_end : m ≤ i → i ≡ same_front (decoded m vs) (decoded n ws)
    unfolding same_front
    alike_end h =
        let here : same_front (drop i (decoded m vs)) (drop i (decoded n ws)) ≡ 0 = rw (no_field m vs few i h) in
        omega (arith, k.so-far)

    alike-end' : n ≤ i → i ≡ same_front (decoded m vs) (decoded n ws)
    alike-end' h =
        let here : same_front (drop i (decoded m vs)) (drop i (decoded n ws)) ≡ 0 = rw (no_field n ws few' i h, front-none) in
        omega (arith, k.so-far)

    pub alike-done : min m n ≤ i → i ≡ same_front (decoded m vs) (decoded n ws)
    alike-done h = elim (dec_le m i) [ yes l ↦ alike_end l | no l ↦ alike-end' (omega (arith, lt_of_not-le l)) ]

-- ---- the first field that breaks a promise

module _ (q : Promise) (end : ℕ) where
  abbrev BreakNone : Reach → List Placed → Type 0
  BreakNone r ps = length ps ≤ kept_front q r (fields_in ps) → break_from q r ps ≡ nowhere

  none_from : (r : Reach) (ps : List Placed) → BreakNone r ps
  unfolding kept_front break_from
  none_from r [] h = refl
  none_from r (p ∷ ps) h =
      step (reach_with r p.what) (q (reach_with r p.what) p.what) h (λ k. none_from (reach_with r p.what) ps k)
    where
      step : (s : Reach) (t : Bool) → suc (length ps) ≤ (if t then suc (kept_front q s (fields_in ps)) else 0)
          → BreakNone s ps → (if t then break_from q s ps else p.place) ≡ nowhere
      step s true k ih = ih (omega arith)
      step s false k ih = absurd (omega arith)

  abbrev BreakAt : Reach → List Placed → Type 0
  BreakAt r ps =
      kept_front q r (fields_in ps) < length ps → break_from q r ps ≡ place_of end ps (kept_front q r (fields_in ps))

  at_from : (r : Reach) (ps : List Placed) → BreakAt r ps
  unfolding kept_front break_from place_of
  at_from r [] h = absurd (omega arith)
  at_from r (p ∷ ps) h =
      step (reach_with r p.what) (q (reach_with r p.what) p.what) h (λ k. at_from (reach_with r p.what) ps k)
    where
      step : (s : Reach) (t : Bool) → (if t then suc (kept_front q s (fields_in ps)) else 0) < suc (length ps)
          → BreakAt s ps
          → (if t then break_from q s ps else p.place)
          ≡ place_of end (p ∷ ps) (if t then suc (kept_front q s (fields_in ps)) else 0)
      step s true k ih = ih (omega arith)
      step s false k ih = refl

  pub break-none : (ps : List Placed) → length ps ≤ kept_front q reach_start (fields_in ps) → first_break q ps ≡ nowhere
  unfolding first_break
  break-none ps h = none_from reach_start ps h

  pub break-at : (ps : List Placed) → kept_front q reach_start (fields_in ps) < length ps
      → first_break q ps ≡ place_of end ps (kept_front q reach_start (fields_in ps))
  unfolding first_break
  break-at ps h = at_from reach_start ps h

-- ---- the first field that is not the old layout's

module _ (end : ℕ) where
  pub differ-none : (fs : List Field) (ps : List Placed) → length fs ≤ same_front fs (fields_in ps) → first_difference end fs ps ≡ nowhere
  unfolding same_front first_difference
  differ-none [] ps h = refl
  differ-none (f ∷ fs) [] h = absurd (omega arith)
  differ-none (f ∷ fs) (p ∷ ps) h = step (same_field f p.what) h (λ k. differ-none fs ps k)
    where
      step : (t : Bool) → suc (length fs) ≤ (if t then suc (same_front fs (fields_in ps)) else 0)
          → (length fs ≤ same_front fs (fields_in ps) → first_difference end fs ps ≡ nowhere) → (if t then first_difference end fs ps else p.place) ≡ nowhere
      step true k ih = ih (omega arith)
      step false k ih = absurd (omega arith)

  pub differ-at : (fs : List Field) (ps : List Placed) → same_front fs (fields_in ps) < length fs
      → first_difference end fs ps ≡ place_of end ps (same_front fs (fields_in ps))
  unfolding same_front first_difference place_of
  differ-at [] ps h = absurd (omega arith)
  differ-at (f ∷ fs) [] h = refl
  differ-at (f ∷ fs) (p ∷ ps) h = step (same_field f p.what) h (λ k. differ-at fs ps k)
    where
      step : (t : Bool) → (if t then suc (same_front fs (fields_in ps)) else 0) < suc (length fs)
          → (same_front fs (fields_in ps) < length fs → first_difference end fs ps ≡ place_of end ps (same_front fs (fields_in ps)))
          → (if t then first_difference end fs ps else p.place) ≡ place_of end (p ∷ ps) (if t then suc (same_front fs (fields_in ps)) else 0)
      step true k ih = ih (omega arith)
      step false k ih = refl

-- the same fields are among those of both
pub front-few : (fs gs : List Field) → (same_front fs gs ≤ length fs) × (same_front fs gs ≤ length gs)
unfolding same_front
front-few [] gs = (omega arith, omega arith)
front-few (f ∷ fs) [] = (omega arith, omega arith)
front-few (f ∷ fs) (g ∷ gs) = step (same_field f g) (front-few fs gs)
  where
    step : (t : Bool) → (same_front fs gs ≤ length fs) × (same_front fs gs ≤ length gs)
        → ((if t then suc (same_front fs gs) else 0) ≤ suc (length fs)) × ((if t then suc (same_front fs gs) else 0) ≤ suc (length gs))
    step true h = (omega arith, omega arith)
    step false h = (omega arith, omega arith)
