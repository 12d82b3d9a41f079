-- The loop keeps in `good` whether the bytes up to i are the same.

use Rattle.std.proofs.Common.{refl, sym, ◌∙◌, arith}
use mathlib.Core.Path.{ap₂}
use lib.Seq.{take_all}
use Rattle.compare.specs.Difference.{same_bytes}
use Rattle.compare.proofs.difference.Runs.{front_same}
use Rattle.compare.proofs.difference.same_bytes.Goals as goal

pub loop-i-init : goal.loop-i-init
unfolding same_bytes
loop-i-init c = refl

pub loop-i-preserved : goal.loop-i-preserved
loop-i-preserved c =
    let a = c.args in
    let l = c.loop-i in
    rw l.invariant (sym (front_same a.first.now a.second.now l.i c.requires c.loop-i-test.true))

pub returns : goal.returns
returns c =
    let a = c.args in
    let l = c.loop-i in
    l.invariant ∙ ap₂ same_bytes (take_all l.i a.first.now (omega arith)) (take_all l.i a.second.now (omega arith))
