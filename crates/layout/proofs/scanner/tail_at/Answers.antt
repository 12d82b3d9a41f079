-- A flag is taken where the byte is `u`, and the count stands after it; another letter is neither.
use mathlib.Core.Path.{sym, ap, ◌∙◌}
use native.Mathlib.Nat.{add-zero}
use native.Mathlib.Omega.{arith}
use borrow.Author.Tests.{eq-eqb, ne_eqb}
use Rattle.layout.specs.Layout.{to_nat}
use Rattle.layout.proofs.Steps.{flag-end, flag-byte, count-end, count_none, above-decimal}
use Rattle.layout.proofs.scanner.tail_at.Goals as goal

pub returns-then-text-at : goal.returns-then-text-at
returns-then-text-at c = (ap to_nat (flag-end _ _ c.if-text-at.true), rw add-zero (count-end _ _ c.if-text-at.true))

pub returns-then-not-flag : goal.returns-then-not-flag
returns-then-not-flag c =
    let h = c.if-text-at.false in
    (ap to_nat (sym (ne_eqb _ 117 c.if-not-flag.true) ∙ flag-byte _ _ h), rw add-zero (count_none _ _ h (λ e. omega arith) (above-decimal _ c.if-c-gt57.true)))

pub returns-then-c-gt57 : goal.returns-then-c-gt57
returns-then-c-gt57 c = (ap to_nat (sym (eq-eqb _ 117 c.if-not-flag.false) ∙ flag-byte _ _ c.if-text-at.false), c.count_at-n.ensures)

pub returns : goal.returns
returns c =
    (ap to_nat (sym (ne_eqb _ 117 (λ e. omega arith)) ∙ flag-byte _ _ c.if-text-at.false), rw add-zero c.count_at-n-2.ensures)
