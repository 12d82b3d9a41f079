-- Every byte that the loop passes is a space, which the fields from there on do not see.
use mathlib.Core.Path.{◌∙◌}
use native.Mathlib.Numerals.{add-one}
use native.Mathlib.Omega.{arith}
use Rattle.layout.proofs.Laws.{over-space}
use Rattle.layout.proofs.scanner.spaces_end.Goals as goal

pub loop-i-preserved : goal.loop-i-preserved
loop-i-preserved c =
    let l = c.loop-i in
    (omega arith, omega arith, λ packing. rw add-one (l.invariant.2 packing ∙ over-space packing c.args.text.now l.i c.loop-i-test.true c.if-text-i-eq32.true))
