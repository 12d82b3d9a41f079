-- The bytes before i are the same, those of the equal blocks at first, so the two part where those from i on do.

use Rattle.std.proofs.Common.{◌≡◌, ◌∙◌, arith, length}
use Rattle.compare.proofs.difference.Runs.{alike_from, alike-more, alike-parts, alike-done}
use Rattle.compare.proofs.difference.first_difference.Goals as goal

pub loop-i-init : goal.loop-i-init
loop-i-init c =
    let e = c.equal_blocks-i.ensures in
    alike_from c.args.first.now c.args.second.now _ e.0 e.1

pub returns-then-first-i : goal.returns-then-first-i
returns-then-first-i c =
    alike-parts c.args.first.now c.args.second.now c.loop-i.i c.loop-i.invariant c.loop-i-test.true (omega arith) c.if-first-i.true

pub loop-i-preserved : goal.loop-i-preserved
loop-i-preserved c =
    alike-more c.args.first.now c.args.second.now c.loop-i.i c.loop-i.invariant c.loop-i-test.true (omega arith) c.if-first-i.false

pub returns : goal.returns
returns c =
    let e = c.equal_blocks-i.ensures in
    let end : length c.args.first.now ≡ c.loop-i.i = omega (arith, e.0) in
    end ∙ alike-done c.args.first.now c.args.second.now c.loop-i.i c.loop-i.invariant c.loop-i-test.false
