-- Digit by digit; the loop keeps the number and the digits that the definition ends with.
use Prim.Native.Nat.{ℕ, ◌+◌, ◌*◌, ◌≤◌, ◌<◌}
use mathlib.Core.Path.{◌≡◌, refl, sym, ◌∙◌}
use mathlib.Core.Bool.{true, false}
use mathlib.Core.List.{List}
use native.Mathlib.Numerals.{add-one}
use native.Mathlib.Omega.{arith}
use lib.ListN.{length, drop, get_or}
use borrow.Author.Rules.{rules}
use Rattle.layout.specs.Layout.{is_decimal}
use Rattle.perl.specs.Tokens.{with_digit, continues, number_in, digits_in}
use Rattle.perl.proofs.tokens.Numbers.{no_digit, makes-zero, too_large, goes_on, number-on, number-stop, number-end}
use Rattle.perl.proofs.tokens.number.Goals as goal
use Rattle.perl.proofs.tokens.number.Goals.{then-more-eq0-via-then-more-eq0, then-more-eq0-via-else-more-eq0+then-limit-more}

-- where the number stops, what was read is the whole of it
stopped : (text : List ℕ) (limit v i : ℕ) → i < length text → continues limit v (get_or text i 0) ≡ false
    → (v ≤ limit) × (number_in limit v (drop i text) ≡ number_in limit 0 text) × (i + digits_in limit v (drop i text) ≡ digits_in limit 0 text)
    → (v ≡ number_in limit 0 text) × (i ≡ digits_in limit 0 text)
stopped text limit v i h e inv = let s = number-stop text limit v i h e in (sym s.0 ∙ inv.1, omega (arith, inv.2, s.1))

pub returns-then-not-is_ascii_digit : goal.returns-then-not-is_ascii_digit
returns-then-not-is_ascii_digit c =
    let l = c.loop-digits in
    let other : is_decimal (get_or c.args.text.now l.digits 0) ≡ false = search rules in
    stopped _ _ _ _ c.loop-digits-test.true (no_digit c.args.limit l.value _ other) l.invariant

pub returns-then-more-eq0 : goal.returns-then-more-eq0
returns-then-more-eq0 c =
    let l = c.loop-digits in
    let digit : is_decimal (get_or c.args.text.now l.digits 0) ≡ true = search rules in
    let w : with_digit l.value (get_or c.args.text.now l.digits 0) ≡ 10 * l.value + c.from.result = rw c.from.ensures refl in
    let stops : continues c.args.limit l.value (get_or c.args.text.now l.digits 0) ≡ false = elim c.then-more-eq0.branch [
      | then-more-eq0-via-then-more-eq0 u ↦ makes-zero c.args.limit l.value _ digit (w ∙ u.if-more-eq0.true)
      | then-more-eq0-via-else-more-eq0+then-limit-more u ↦ too_large c.args.limit l.value _ digit (rw w u.if-limit-more.true)
    ] in
    stopped _ _ _ _ c.loop-digits-test.true stops l.invariant

pub loop-digits-preserved : goal.loop-digits-preserved
loop-digits-preserved c =
    let l = c.loop-digits in
    let text : List ℕ = c.args.text.now in
    let digit : is_decimal (get_or text l.digits 0) ≡ true = search rules in
    let w : 10 * l.value + c.from.result ≡ with_digit l.value (get_or text l.digits 0) = rw c.from.ensures refl in
    let on = number-on text c.args.limit l.value l.digits c.loop-digits-test.true
    (goes_on c.args.limit l.value _ digit (rw (← w) c.if-more-eq0.false) (rw (← w) c.if-limit-more.false)) in
    (c.if-limit-more.false, rw (w, add-one) (sym on.0 ∙ l.invariant.1), rw (w, add-one) (omega (arith, l.invariant.2, on.1)))

pub returns : goal.returns
returns c =
    let l = c.loop-digits in
    let s = number-end c.args.text.now c.args.limit l.value l.digits (omega arith) in
    (sym s.0 ∙ l.invariant.1, omega (arith, l.invariant, s.1))
