-- What takes a slot takes every count, and so does `X`; `x` and `@` are told apart by their numbers.
use native.Mathlib.Omega.{arith}
use borrow.Author.Tests.{ne_eqb, le-leb}
use Rattle.layout.specs.Codes.{type_numbered}
use Rattle.layout.proofs.Numbered.{meaning-data, meaning-back}
use Rattle.layout.proofs.Steps.{skip-meaning, goto-meaning}
use Rattle.layout.proofs.parser.has_meaning.Goals as goal

pub returns-then-d-le-LAST_DATA : goal.returns-then-d-le-LAST_DATA
returns-then-d-le-LAST_DATA c = rw (le-leb _ _ c.if-d-le-LAST_DATA.true) (meaning-data _ _ _ c.if-d-le-LAST_DATA.true)

pub returns-then-n-ne1 : goal.returns-then-n-ne1
unfolding type_numbered
returns-then-n-ne1 c = rw (c.in-24.is, ne_eqb c.args.n 1 c.if-n-ne1.true) (skip-meaning _ _ c.if-n-ne1.true)

pub returns-else-n-ne1 : goal.returns-else-n-ne1
unfolding type_numbered
returns-else-n-ne1 c = rw (c.in-24.is, c.if-n-ne1.false)

pub returns-in-26 : goal.returns-in-26
unfolding type_numbered
returns-in-26 c = rw c.in-26.is (goto-meaning c.args.packing c.args.n)

pub returns-in_default : goal.returns-in_default
returns-in_default c = meaning-back _ _ _ c.if-d-le-LAST_DATA.false (λ e. omega arith) (λ e. omega arith)
