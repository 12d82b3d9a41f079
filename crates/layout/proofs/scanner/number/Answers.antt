-- The loop holds the number at the limit at every digit, and holding it once at the end gives the same.
use Prim.Native.Nat.{ℕ, suc}
use mathlib.Core.Path.{◌≡◌, refl, ◌∙◌}
use mathlib.Core.Bool.{true, false}
use mathlib.Core.List.{List}
use native.Mathlib.Numerals.{add-one}
use native.Mathlib.Omega.{arith}
use lib.ListN.{drop, get_or}
use borrow.Author.Rules.{rules}
use Rattle.layout.specs.Layout.{is_decimal, digit_run}
use Rattle.layout.proofs.Laws.{run_on, run-stop, run_end}
use Rattle.layout.proofs.Steps.{decimal-stop, decimal-end, held_on}
use Rattle.layout.proofs.scanner.number.Goals as goal

pub loop-i-init : goal.loop-i-init
loop-i-init c = (search rules, refl, refl)

pub returns-then-not-is_ascii_digit : goal.returns-then-not-is_ascii_digit
returns-then-not-is_ascii_digit c =
    let l = c.loop-i in
    let text : List ℕ = c.args.text.now in
    let other : is_decimal (get_or text l.i 0) ≡ false = search rules in
    (omega (arith, l.invariant, decimal-stop text l.i l.value c.loop-i-test.true other), omega (arith, l.invariant, run-stop text l.i c.loop-i-test.true other))

pub loop-i-preserved : goal.loop-i-preserved
loop-i-preserved c =
    let l = c.loop-i in
    let text : List ℕ = c.args.text.now in
    let digit : is_decimal (get_or text l.i 0) ≡ true = search rules in
    let on : digit_run (drop l.i text) ≡ suc (digit_run (drop (suc l.i) text)) = run_on text l.i c.loop-i-test.true digit in
    (omega arith, rw (add-one, c.more-value.ensures) (held_on text l.i l.value c.loop-i-test.true digit ∙ l.invariant.1), rw add-one (omega (arith, l.invariant.2)))

pub returns : goal.returns
returns c =
    let l = c.loop-i in
    let text : List ℕ = c.args.text.now in
    (omega (arith, l.invariant, decimal-end text l.i l.value (omega arith)), omega (arith, l.invariant, run_end text l.i (omega arith)))
