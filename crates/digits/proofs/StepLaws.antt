-- How far a field of binary digits is after k steps: a whole byte is done in each of the first n/8, and one digit in
-- each of the next n%8.
use Prim.Native.Nat.{ℕ, zero, suc, ◌+◌, ◌-◌, ◌*◌, ◌/◌, ◌%◌, ◌≤◌, ◌<◌, min}
use native.Mathlib.Nat.{zero-add, suc-add, add-zero}
use native.Mathlib.Numerals.{add-one}
use native.Mathlib.Omega.{arith}
use mathlib.Core.Path.{◌≡◌, refl, sym, ap, ◌∙◌}
use mathlib.Core.List.{List, [], ◌∷◌}
use lib.ListN.{length, set}
use lib.Seq.{get_or-set_other}
use borrow.Author.Tests.{lt-ltb, le-ltb, le-leb, lt-leb}
use Rattle.record.specs.Bytes.{store_at, fit, digits, number}
use Rattle.record.specs.Packing.{digit_value}
use Rattle.record.specs.Reading.{digit_char}
use Rattle.record.proofs.Stores.{Put, put-none, put-more, put-done}
use Rattle.record.proofs.Fields.{split}
use Rattle.digits.specs.Steps.{Progress, Writing, next_done, storing, step, steps, Advanced, binary_steps, binary_budget, OneByteSet, OneByteSeen, InOneByte, AllDone, NoFewer, SevenNeeded, Settled, Example}

-- ---- one step

step-on : (write : Writing) (n : ℕ) (p : Progress) → p.done < n → step write n p ≡ record { done = next_done n p.done; bytes = write p.bytes p.done (next_done n p.done) }
unfolding step
step-on write n p h = rw (lt-ltb p.done n h)

step_end : (write : Writing) (n : ℕ) (p : Progress) → n ≤ p.done → step write n p ≡ p
unfolding step
step_end write n p h = rw (le-ltb p.done n h)

pub one-byte-set : OneByteSet
one-byte-set high cs at n p i other =
    split n p.done (λ h. rw (step_end (storing high cs at) n p h)) (λ h. rw (step-on (storing high cs at) n p h) (get_or-set_other p.bytes (at + p.done / 8) i _ 0 other))

pub one-byte-seen : OneByteSeen
unfolding step
one-byte-seen high one two at to n p same = rw same

-- ---- how many digits are done

abbrev pub done_after : ℕ → ℕ → ℕ
done_after n k = 8 * min k (n / 8) + min (k - n / 8) (n % 8)

few : (n k : ℕ) → k ≤ n / 8 → done_after n k ≡ 8 * k
few n k h = omega arith

many : (n k : ℕ) → n / 8 ≤ k → 8 * (n / 8) ≤ done_after n k
many n k h = omega arith

one_more : (n k : ℕ) → n / 8 ≤ k → done_after n k < n → done_after n (suc k) ≡ done_after n k + 1
one_more n k h l = omega arith

more-done : (n k : ℕ) → done_after n k < n → next_done n (done_after n k) ≡ done_after n (suc k)
more-done n k h =
    split (suc k) (n / 8)
    (λ l. rw (few n k (omega arith), few n (suc k) l, le-leb (8 * k + 8) n (omega arith)) (omega arith))
    (λ l. rw (one_more n k (omega arith) h, lt-leb (done_after n k + 8) n (omega (arith, many n k (omega arith)))))

no-more-done : (n k : ℕ) → n ≤ done_after n k → done_after n k ≡ done_after n (suc k)
no-more-done n k h = omega arith

pub done-is : (write : Writing) (n : ℕ) (bytes : List ℕ) (k : ℕ) → (steps write n bytes k).done ≡ done_after n k
unfolding steps
done-is write n bytes zero = omega arith
done-is write n bytes (suc k) =
    let p : Progress = steps write n bytes k in
    let is : p.done ≡ done_after n k = done-is write n bytes k in
    split n p.done
    (λ h. ap (λ (q : Progress). q.done) (step_end write n p h) ∙ is ∙ no-more-done n k (omega arith))
    (λ h. ap (λ (q : Progress). q.done) (step-on write n p h) ∙ ap (next_done n) is ∙ more-done n k (omega arith))

-- the digits of a step stand in one byte
in-byte : (n k : ℕ) → done_after n (suc k) ≤ 8 * (done_after n k / 8) + 8
in-byte n k = split (suc k) (n / 8) (λ l. omega arith) (λ l. omega arith)

pub in-one-byte : InOneByte
in-one-byte write n bytes k = rw (done-is write n bytes k, done-is write n bytes (suc k)) (in-byte n k)

pub all_done : AllDone
all_done write n bytes = (done-is write n bytes (binary_steps n) ∙ (omega arith), done-is write n bytes (binary_budget n) ∙ (omega arith))

pub no-fewer : NoFewer
no-fewer write n bytes k h = rw (done-is write n bytes k) (omega arith)

pub seven-needed : SevenNeeded
seven-needed write n bytes h = no-fewer write n bytes (n / 8 + 6) (omega arith)

-- ---- what is written

-- what holds at the start, and after a step where it held before it, holds after k steps
module _ (P : ℕ → List ℕ → Type 0) (write : Writing) (n : ℕ) (bytes : List ℕ) (start : P 0 bytes)
    (more : (d e : ℕ) (b : List ℕ) → d < e → e ≤ n → e ≤ 8 * (d / 8) + 8 → P d b → P e (write b d e)) where
  pub over-steps : (k : ℕ) → P (done_after n k) (steps write n bytes k).bytes
  unfolding steps
  over-steps zero = let none : done_after n 0 ≡ 0 = omega arith in rw none start
  over-steps (suc k) =
      let p : Progress = steps write n bytes k in
      let is : p.done ≡ done_after n k = done-is write n bytes k in
      split n p.done
      (λ h. rw (step_end write n p h, ← no-more-done n k (omega arith)) (over-steps k))
      (λ h. rw (step-on write n p h, is, more-done n k (omega arith))
      (more (done_after n k) (done_after n (suc k)) p.bytes (omega arith) (omega arith) (in-byte n k) (over-steps k)))

settled-after : (write : Writing) (n : ℕ) (bytes : List ℕ) (j : ℕ) → steps write n bytes (j + binary_steps n) ≡ steps write n bytes (binary_steps n)
unfolding steps
settled-after write n bytes zero = rw zero-add
settled-after write n bytes (suc j) =
    let p : Progress = steps write n bytes (j + binary_steps n) in
    let is : p.done ≡ done_after n (j + binary_steps n) = done-is write n bytes (j + binary_steps n) in
    rw suc-add (step_end write n p (omega arith) ∙ settled-after write n bytes j)

pub settled : Settled
settled write n bytes k h =
    let past : k ≡ (k - binary_steps n) + binary_steps n = omega arith in
    ap (steps write n bytes) past ∙ settled-after write n bytes (k - binary_steps n)

-- ---- the steps by their numbers

-- the step number k, over a whole byte or over one digit after these
module _ (write : Writing) (n k : ℕ) (bytes : List ℕ) where
  next-step : (d e : ℕ) → done_after n k ≡ d → next_done n d ≡ e → d < n → (steps write n bytes (k + 1)).bytes ≡ write (steps write n bytes k).bytes d e
  unfolding steps
  next-step d e is next h =
      let p : Progress = steps write n bytes k in
      let here : p.done ≡ d = done-is write n bytes k ∙ is in
      rw add-one (ap (λ (q : Progress). q.bytes) (step-on write n p (omega arith)) ∙ rw (here, next))

  pub whole-step : k < n / 8 → (steps write n bytes (k + 1)).bytes ≡ write (steps write n bytes k).bytes (8 * k) (8 * k + 8)
  whole-step h = next-step (8 * k) (8 * k + 8) (few n k (omega arith)) (rw (le-leb (8 * k + 8) n (omega arith))) (omega arith)

  pub digit-step : (j : ℕ) → k ≡ n / 8 + j → j < n % 8 → (steps write n bytes (k + 1)).bytes ≡ write (steps write n bytes k).bytes (8 * (n / 8) + j) (8 * (n / 8) + j + 1)
  digit-step j e h = next-step (8 * (n / 8) + j) (8 * (n / 8) + j + 1) (omega arith) (rw (lt-leb (8 * (n / 8) + j + 8) n (omega arith))) (omega arith)

-- as many as the budget has, and no more than there are
pub within-budget : (write : Writing) (n budget m : ℕ) {one two : List ℕ} → m ≡ min (binary_steps n) budget → Advanced write n 0 m one two → two ≡ (steps write n one budget).bytes
unfolding steps
within-budget write n budget m {one} e run =
    run one refl
    ∙ split (binary_steps n) budget
    (λ h. let all : m ≡ binary_steps n = omega arith in ap (λ (p : Progress). p.bytes) (ap (steps write n one) all ∙ sym (settled write n one budget h)))
    (λ h. let some : m ≡ budget = omega arith in ap (λ (k : ℕ). (steps write n one k).bytes) some)

-- one byte is stored by being set
pub one_set : (d : List ℕ) (at b : ℕ) → at < length d → set d at b ≡ store_at d at (b ∷ [])
one_set d at b h =
    let none : Put d at (b ∷ []) d 0 = put-none in
    rw add-zero at (put-done (put-more none (omega arith) (omega arith) refl) refl)

pub example : Example
unfolding steps step fit number digits digit_value digit_char
example = (refl, refl)
