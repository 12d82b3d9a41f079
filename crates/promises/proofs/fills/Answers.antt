-- The arms are the clauses of the definition; what a count asks for is far below the width of a `usize`.
use Prim.Native.Nat.{◌≤◌}
use mathlib.Core.Path.{◌≡◌, refl, ◌∙◌}
use native.Mathlib.Omega.{arith}
use borrow.Author.Rules.{rules}
use Rattle.layout.specs.declared.Role.TheVariants.{Move}
use Rattle.layout.specs.declared.Motion.TheVariants.{Skip, Back, Goto}
use Rattle.runs.specs.Ends.{fills}
use Rattle.promises.specs.inside.Walk.{code_reach}
use Rattle.promises.proofs.Fronts.{one-near}
use Rattle.promises.proofs.fills.Goals as goal

pub returns-in-Data : goal.returns-in-Data
unfolding fills
returns-in-Data c =
    let small : fills c.args.k c.args.n ≤ code_reach = one-near c.args.k c.args.n c.requires.0 c.requires.1 in
    let same : c.bytes_for.result ≡ fills c.args.k c.args.n = rw c.in-Data.is (c.bytes_for.ensures ∙ rw c.amount.ensures) in
    (same, rw same small)

pub returns-in-Move-Skip : goal.returns-in-Move-Skip
unfolding fills
returns-in-Move-Skip c =
    let small : fills c.args.k c.args.n ≤ code_reach = one-near c.args.k c.args.n c.requires.0 c.requires.1 in
    let is : c.args.k ≡ Move Skip = search rules in
    let same : c.amount-in-Move-Skip.result ≡ fills c.args.k c.args.n = rw is c.amount-in-Move-Skip.ensures in
    (same, rw same small)

pub returns-in-Move-Back : goal.returns-in-Move-Back
unfolding fills
returns-in-Move-Back c = let is : c.args.k ≡ Move Back = search rules in (rw is refl, omega arith)

pub returns-in-Move-Goto : goal.returns-in-Move-Goto
unfolding fills
returns-in-Move-Goto c = let is : c.args.k ≡ Move Goto = search rules in (rw is refl, omega arith)
