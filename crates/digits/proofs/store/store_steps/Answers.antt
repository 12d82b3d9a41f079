-- The steps over full bytes, after them those over bytes with padding and those over single digits, are all of them or
-- as many as the budget has.

use Rattle.std.proofs.Common.{sym, ◌∙◌, arith, false, take}
use mathlib.Core.Bool.{true≢false}
use lib.ListN.{length-take}
use Rattle.digits.specs.Steps.{storing}
use Rattle.digits.proofs.DigitLaws.{checked}
use Rattle.digits.proofs.StepLaws.{within-budget}
use Rattle.digits.proofs.store.StoredSteps.{first-stored}
use Rattle.digits.proofs.store.store_steps.Goals as goal

pub store_run-requires : goal.store_run-requires
store_run-requires c =
    let long = length-take c.min.result c.args.given.now in
    (omega arith, omega arith, omega arith, rw c.min.ensures (checked false c.args.n c.args.given.now c.requires.2), omega arith, omega arith, λ e. omega arith, λ e. absurd (true≢false e), λ e. omega arith)

pub store_run-requires-2 : goal.store_run-requires-2
store_run-requires-2 c =
    let long = length-take c.min.result c.args.given.now in
    (omega arith, omega arith, omega arith, rw c.min.ensures (checked false c.args.n c.args.given.now c.requires.2), omega arith, omega arith, λ e. omega arith, λ e. absurd (true≢false e), λ e. absurd (true≢false (sym e)))

pub store_run-requires-3 : goal.store_run-requires-3
store_run-requires-3 c =
    let long = length-take c.min.result c.args.given.now in
    (omega arith, omega arith, omega arith, rw c.min.ensures (checked false c.args.n c.args.given.now c.requires.2), omega arith, omega arith, λ e. absurd (true≢false (sym e)), λ e h. omega arith, λ e. absurd (true≢false (sym e)))

pub returns : goal.returns
returns c =
    let a = c.args in
    let only = first-stored a.high a.given.now a.at a.n a.out.now a.budget c.requires.1 in
    within-budget (storing a.high (take c.min.result a.given.now) a.at) a.n a.budget c.min-all.result (omega arith)
    (λ bytes same. c.store_run-3.ensures bytes (c.store_run-2.ensures bytes (c.store_run.ensures bytes same)))
    ∙ rw c.min.ensures only
