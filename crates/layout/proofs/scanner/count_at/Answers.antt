-- The first byte decides: a star, a digit from which the number is read, or no count at all.
use borrow.Author.Rules.{rules}
use native.Mathlib.Omega.{arith}
use Rattle.layout.proofs.Steps.{count-end, count-star, count_none, count-number}
use Rattle.layout.proofs.scanner.count_at.Goals as goal

pub returns-then-text-at : goal.returns-then-text-at
returns-then-text-at c = count-end _ _ c.if-text-at.true

pub returns-in-42 : goal.returns-in-42
returns-in-42 c = count-star _ _ c.if-text-at.false c.in-42.is

pub returns-in-48-to-57 : goal.returns-in-48-to-57
returns-in-48-to-57 c = count-number _ _ c.if-text-at.false (λ e. omega arith) (search rules) _ _ c.number-n.ensures

pub returns-in_default : goal.returns-in_default
returns-in_default c = count_none _ _ c.if-text-at.false (λ e. omega arith) (search rules)

pub returns-in_default-2 : goal.returns-in_default-2
returns-in_default-2 c = count_none _ _ c.if-text-at.false (λ e. omega arith) (search rules)
