-- Reading out step by step: after any number of steps the characters of the digits that are done stand in the area,
-- since each step writes those of a part of one byte after them.
use Prim.Native.Nat.{ℕ, ◌+◌, ◌-◌, ◌*◌, ◌/◌, ◌%◌, ◌≤◌, ◌<◌}
use native.Mathlib.Omega.{arith}
use mathlib.Core.Path.{◌≡◌, sym, ap, ◌∙◌}
use mathlib.Core.Bool.{Bool, false}
use mathlib.Core.List.{List, [], ◌∷◌}
use lib.ListN.{length, take, drop, get_or, set}
use lib.Seq.{take_all, drop-cons}
use Rattle.record.specs.Bytes.{part, store_at, ceil_div}
use Rattle.record.proofs.Bytes.{drop-take, part_at}
use Rattle.record.proofs.Stores.{length_part, store-whole}
use Rattle.layout.specs.declared.Shape.TheVariants.{Digits}
use Rattle.record.specs.Reading.{loaded}
use Rattle.digits.specs.inside.chars.{chars_of}
use Rattle.digits.proofs.chars.CharLaws.{length-chars}
use Rattle.byte_runs.proofs.ByteLaws.{part-rest, Grown, grown-none, grown-more, grown-done}
use Rattle.digits.specs.Steps.{Writing, showing, steps, Advanced, binary_budget, ShownWithin}
use Rattle.digits.proofs.StepLaws.{done_after, over-steps, whole-step, digit-step, one_set}
use Rattle.digits.proofs.load.DigitChars.{shown_chars, length-shown, shown-first, shown-part, shown-any}

-- a part of a byte's characters, in those of the field
shown-piece : (high : Bool) (n : ℕ) (bs : List ℕ) (k j count : ℕ) → k < length bs → j + count ≤ 8 → k * 8 + (j + count) ≤ n
    → part (shown_chars false high n bs) (k * 8 + j) count ≡ part (chars_of false high (get_or bs k 0)) j count
shown-piece high n bs k j count h l m =
    let s : List ℕ = shown_chars false high n bs in
    let chars : List ℕ = chars_of false high (get_or bs k 0) in
    let rest : j + count - j ≡ count = omega arith in
    let cut : part s (k * 8 + j) (j + count - j) ≡ part chars j (j + count - j) = sym (part-rest s (k * 8) (j + count)
    j) ∙ ap (drop j) (shown-part false high n bs k (j + count) h l m) ∙ drop-take j (j + count) chars in
    rw rest at cut

module _ (high : Bool) (bytes : List ℕ) (at to n : ℕ) (area : List ℕ) (fits : at + ceil_div n 8 ≤ length bytes) (room : to + n ≤ length area) where
  abbrev chars : List ℕ
  chars = shown_chars false high n (part bytes at (ceil_div n 8))

  long : length chars ≡ n
  long = length-shown false high n (part bytes at (ceil_div n 8)) (omega (arith, length_part (ceil_div n 8) at bytes fits))

  -- the characters that a step writes
  written : (d e : ℕ) → d < e → e ≤ n → e ≤ 8 * (d / 8) + 8 → part chars d (e - d) ≡ part (chars_of false high (get_or bytes (at + d / 8) 0)) (d % 8) (e - d)
  written d e h k l =
      let bs : List ℕ = part bytes at (ceil_div n 8) in
      let lb : length bs ≡ ceil_div n 8 = length_part (ceil_div n 8) at bytes fits in
      let byte : get_or bs (d / 8) 0 ≡ get_or bytes (at + d / 8) 0 = part_at bytes at (ceil_div n 8) (d / 8) (omega arith) in
      let place : d / 8 * 8 + d % 8 ≡ d = omega arith in
      rw (← byte) (rw place at (shown-piece high n bs (d / 8) (d % 8) (e - d) (omega arith) (omega arith) (omega arith)))

  grown : (k : ℕ) → Grown area to chars (steps (showing high bytes at to) n area k).bytes (done_after n k)
  unfolding chars_of
  grown =
      over-steps (λ d r. Grown area to chars r d) (showing high bytes at to) n area grown-none
      (λ d e r h k l g. let next : d + (e - d) ≡ e = omega arith in
      let here : showing high bytes at to r d e ≡ store_at r (to + d) (part chars d (e - d)) = rw (written d e h k l) in
      rw next at (grown-more (e - d) g (omega (arith, long)) (omega (arith, long)) here))

  pub shown-all : (steps (showing high bytes at to) n area (binary_budget n)).bytes ≡ store_at area to chars
  shown-all = grown-done (grown (binary_budget n)) (long ∙ (omega arith))

-- ---- the step that the code does

module _ (high : Bool) (bytes : List ℕ) where
  abbrev writing : Writing
  writing = showing high bytes 0 0

module _ (high : Bool) (bytes : List ℕ) (n k : ℕ) {area area' : List ℕ} where
  -- over a whole byte
  pub eight-shown : k < n / 8 → area' ≡ store_at area (8 * k) (chars_of false high (get_or bytes k 0)) → Advanced (writing high bytes) n k (k + 1) area area'
  unfolding chars_of
  eight-shown h e start same =
      let byte : 0 + 8 * k / 8 ≡ k = omega arith in
      let place : 0 + 8 * k ≡ 8 * k = omega arith in
      let first : 8 * k % 8 ≡ 0 = omega arith in
      let count : 8 * k + 8 - 8 * k ≡ 8 = omega arith in
      let chars : List ℕ = chars_of false high (get_or bytes k 0) in
      let all : take 8 chars ≡ chars = take_all 8 chars (omega (arith, length-chars false high (get_or bytes k 0))) in
      let here : writing high bytes area (8 * k) (8 * k + 8) ≡ store_at area (8 * k) chars = rw (byte, place, first, count) (ap (store_at area (8 * k)) all) in
      e ∙ sym (whole-step (writing high bytes) n k start h ∙ ap (λ (r : List ℕ). writing high bytes r (8 * k) (8 * k + 8)) (sym same) ∙ here)

  -- over the digit number j of the last
  pub digit-shown : (j : ℕ) → k ≡ n / 8 + j → j < n % 8 → n ≤ length area → area' ≡ set area (8 * (n / 8) + j) (get_or (chars_of false high (get_or bytes (n / 8) 0)) j 0)
      → Advanced (writing high bytes) n k (k + 1) area area'
  unfolding chars_of
  digit-shown j ek h room e start same =
      let d : ℕ = 8 * (n / 8) + j in
      let byte : 0 + d / 8 ≡ n / 8 = omega arith in
      let first : d % 8 ≡ j = omega arith in
      let count : d + 1 - d ≡ 1 = omega arith in
      let place : 0 + d ≡ d = omega arith in
      let chars : List ℕ = chars_of false high (get_or bytes (n / 8) 0) in
      let one : part chars j 1 ≡ get_or chars j 0 ∷ [] = rw (drop-cons chars j 0 (omega (arith, length-chars false high (get_or bytes (n / 8) 0)))) in
      let here : writing high bytes area d (d + 1) ≡ set area d (get_or chars j 0) =
      rw (byte, first, count, place) (ap (store_at area d) one ∙ sym (one_set area d (get_or chars j 0) (omega arith))) in
      e ∙ sym (digit-step (writing high bytes) n k start j ek h ∙ ap (λ (r : List ℕ). writing high bytes r d (d + 1)) (sym same) ∙ here)

pub shown-within : ShownWithin
shown-within high bytes at to n area fits room = shown-all high bytes at to n area fits room

-- the whole of a field
pub shown-whole : (high u : Bool) (bytes area : List ℕ) → ceil_div (length area) 8 ≤ length bytes
    → (steps (showing high bytes 0 0) (length area) area (binary_budget (length area))).bytes ≡ (loaded (Digits false high) u (length area) bytes).items
shown-whole high u bytes area fits =
    let n : ℕ = length area in
    shown-within high bytes 0 0 n area (omega arith) (omega arith)
    ∙ rw (shown-first false high n (ceil_div n 8) bytes (omega arith))
    (store-whole area (shown_chars false high n bytes) (length-shown false high n bytes fits) ∙ shown-any false high u n bytes)
