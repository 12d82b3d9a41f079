-- The claims: two equal values say "same" and no others do; bits are the ones of the exclusive or; a record compared
-- with itself; two records the other way round. Each is a law of findings, by induction over the fields, and then of
-- the calls, whose readings do not depend on where they put the values.
use Rattle.std.specs.Prelude.{if◌then◌else◌}
use Prim.Native.Nat.{ℕ, zero, suc, ◌+◌, ◌*◌}
use mathlib.Core.Path.{◌≡◌, refl, sym, ap, ap₂, ◌∙◌}
use mathlib.Core.Bool.{Bool, true, false, true≢false}
use mathlib.Core.List.{List, [], ◌∷◌, ◌++◌, map, append_assoc}
use borrow.Author.Tests.{eq-eqb, ne_eqb, eqb-true, eqb-false}
use lib.Dec.{T, eqb}
use lib.ListN.{drop}
use Rattle.layout.specs.Refusals.{ok}
use Rattle.layout.specs.Layout.{slot_count}
use Rattle.record.specs.Table.{Value, area_bytes}
use Rattle.record.specs.Reading.{values_from, reads}
use Rattle.record.proofs.Bytes.{and-true}
use Rattle.compare.specs.Difference.{same_bytes, first_difference, differing, bits_of, differing_bits, report_width, both_same, only_first, only_second, in_neither, both_differ, plain_finding, both_finding}
use Rattle.compare.specs.Report.{finding_of, findings}
use Rattle.compare.specs.Comparing.{compare_effect}
use Rattle.compare_claims.specs.Claims.{SameIsEqual, ones_of_xor, BitsAreOnes, same_or_neither, WithItself, swapped, other_way, OtherWayRound}
use Rattle.compare.proofs.difference.Bits.{xor-bits, bits-cons, bits_none, none-bits}
use Rattle.compare.proofs.Calls.{accepted-reads, Accepted, accepted-call, left}

-- ---- two values

same-itself : (xs : List ℕ) → same_bytes xs xs ≡ true
unfolding same_bytes
same-itself [] = refl
same-itself (x ∷ xs) = rw (eq-eqb x x refl, same-itself xs)

same-equal : (xs ys : List ℕ) → same_bytes xs ys ≡ true → xs ≡ ys
unfolding same_bytes
same-equal [] [] e = refl
same-equal [] (y ∷ ys) e = absurd (true≢false (sym e))
same-equal (x ∷ xs) [] e = absurd (true≢false (sym e))
same-equal (x ∷ xs) (y ∷ ys) e = let (p, q) = and-true (eqb x y) (same_bytes xs ys) e in rw (eqb-true x y p, same-equal xs ys q)

pub same-is-equal : SameIsEqual
unfolding SameIsEqual
same-is-equal xs ys = (same-equal xs ys, λ e. rw (← e) (same-itself xs))

pub bits-are-ones : BitsAreOnes
unfolding BitsAreOnes ones_of_xor
bits-are-ones [] ys h k = sym (none-bits ys)
bits-are-ones (x ∷ xs) [] h k = sym (bits_none (x ∷ xs))
bits-are-ones (x ∷ xs) (y ∷ ys) h k =
    ap₂ (λ (a b : ℕ). a + b) (xor-bits 8 x y (h 0) (k 0)) (bits-are-ones xs ys (λ i. h (suc i)) (λ i. k (suc i))) ∙ sym (bits-cons x y xs ys)

-- the order does not matter
equal-swap : (x y : ℕ) → eqb x y ≡ eqb y x
equal-swap x y = step (eqb x y) refl
  where
    step : (t : Bool) → eqb x y ≡ t → t ≡ eqb y x
    step true q = sym (eq-eqb y x (sym (eqb-true x y q)))
    step false q = sym (ne_eqb y x (λ e. eqb-false x y q (sym e)))

same-swap : (xs ys : List ℕ) → same_bytes xs ys ≡ same_bytes ys xs
unfolding same_bytes
same-swap [] [] = refl
same-swap [] (y ∷ ys) = refl
same-swap (x ∷ xs) [] = refl
same-swap (x ∷ xs) (y ∷ ys) = rw (equal-swap x y, same-swap xs ys)

difference-swap : (xs ys : List ℕ) → first_difference xs ys ≡ first_difference ys xs
unfolding first_difference
difference-swap [] [] = refl
difference-swap [] (y ∷ ys) = refl
difference-swap (x ∷ xs) [] = refl
difference-swap (x ∷ xs) (y ∷ ys) = rw (equal-swap x y, difference-swap xs ys)

differing-swap : (xs ys : List ℕ) → differing xs ys ≡ differing ys xs
unfolding differing
differing-swap [] [] = refl
differing-swap [] (y ∷ ys) = refl
differing-swap (x ∷ xs) [] = refl
differing-swap (x ∷ xs) (y ∷ ys) = rw (equal-swap x y, differing-swap xs ys)

both-swap : (xs ys : List ℕ) → both_finding xs ys ≡ both_finding ys xs
unfolding both_finding
both-swap xs ys = rw (same-swap xs ys, difference-swap xs ys, differing-swap (bits_of xs) (bits_of ys))

-- ---- findings

itself-findings : (n : ℕ) (xs : List (List ℕ)) (rest : List ℕ) → T (same_or_neither n (findings n xs xs ++ rest))
unfolding same_or_neither findings finding_of both_finding
itself-findings zero xs rest = tt
itself-findings (suc n) [] rest = itself-findings n [] rest
itself-findings (suc n) (x ∷ xs) rest = rw (same-itself x) (itself-findings n xs rest)

swapped-both : (n : ℕ) (xs ys rest : List ℕ) → swapped (suc n) (both_finding xs ys ++ rest) ≡ both_finding xs ys ++ swapped n rest
unfolding swapped both_finding
swapped-both n xs ys rest = step (same_bytes xs ys)
  where
    step : (t : Bool)
        → swapped (suc n) ((if t then plain_finding both_same else (both_differ ∷ first_difference xs ys ∷ differing_bits xs
        ys ∷ [])) ++ rest) ≡ (if t then plain_finding both_same else (both_differ ∷ first_difference xs ys ∷ differing_bits
        xs ys ∷ [])) ++ swapped n rest
    step true = refl
    step false = refl

swapped-findings : (n : ℕ) (xs ys : List (List ℕ)) (rest : List ℕ) → findings n ys xs ++ rest ≡ swapped n (findings n xs ys ++ rest)
unfolding swapped findings finding_of
swapped-findings zero xs ys rest = refl
swapped-findings (suc n) [] [] rest = ap (λ (l : List ℕ). in_neither ∷ 0 ∷ 0 ∷ l) (swapped-findings n [] [] rest)
swapped-findings (suc n) (x ∷ xs) [] rest = ap (λ (l : List ℕ). only_second ∷ 0 ∷ 0 ∷ l) (swapped-findings n xs [] rest)
swapped-findings (suc n) [] (y ∷ ys) rest = ap (λ (l : List ℕ). only_first ∷ 0 ∷ 0 ∷ l) (swapped-findings n [] ys rest)
swapped-findings (suc n) (x ∷ xs) (y ∷ ys) rest =
    append_assoc (both_finding y x) (findings n ys xs) rest
    ∙ ap (λ (l : List ℕ). both_finding y x ++ l) (swapped-findings n xs ys rest)
    ∙ ap (λ (l : List ℕ). l ++ swapped n (findings n xs ys ++ rest)) (both-swap y x)
    ∙ sym (swapped-both n x y (findings n xs ys ++ rest))
    ∙ ap (swapped (suc n)) (sym (append_assoc (both_finding x y) (findings n xs ys) rest))

-- ---- the claims

-- the values of a record do not depend on where they are put
one-reading : (layout bs slots area slots' area' : List ℕ) {vs ws : List Value} → reads layout bs slots area 0 ≡ ok vs → reads layout bs slots' area' 0 ≡ ok ws → vs ≡ ws
one-reading layout bs slots area slots' area' {vs} {ws} e q =
    let r = accepted-reads layout bs slots area vs e in
    let s = accepted-reads layout bs slots' area' ws q in
    let f : r.fs ≡ s.fs = cc (r.fields, s.fields) in
    sym r.shown ∙ ap (values_from bs 0) f ∙ s.shown

pub with_itself : WithItself
unfolding WithItself compare_effect
with_itself layout bs slots area slots' area' report e =
    let a = accepted-call layout bs bs slots area slots' area' report e in
    let n : ℕ = slot_count a.fs in
    let rest : List ℕ = drop (report_width * n) report in
    let t : T (same_or_neither n (findings n (map area_bytes a.vs) (map area_bytes a.ws) ++ rest)) = rw (← one-reading
    layout bs slots area slots' area' a.one a.two) (itself-findings n (map area_bytes a.vs) rest) in
    rw (left layout bs bs slots area slots' area' report a) t

pub other-way-round : OtherWayRound
unfolding OtherWayRound other_way compare_effect
other-way-round layout first second slots area slots' area' report e =
    let a = accepted-call layout first second slots area slots' area' report e in
    let b : Accepted layout second first slots' area' slots area report = record { vs = a.ws; ws = a.vs; fs = a.fs; one = a.two; two = a.one; fields = a.fields; fits = a.fits } in
    let n : ℕ = slot_count a.fs in
    rw (
      left layout first second slots area slots' area' report a,
      left layout second first slots' area' slots area
          report b,
      swapped-findings n (map area_bytes a.vs) (map area_bytes a.ws) (drop (report_width * n) report),
    )
