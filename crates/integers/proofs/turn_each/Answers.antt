-- Turn i copies run i: the loop keeps `Wrote`.
use native.Mathlib.Omega.{arith}
use mathlib.Core.Path.{sym, ap, ◌∙◌}
use mathlib.Core.Bool.{true}
use Rattle.record.specs.Bytes.{store_at}
use Rattle.record.proofs.Stores.{wrote_none, wrote-done}
use Rattle.integers.proofs.IntegerLaws.{eight-more, eights-runs}
use Rattle.integers.proofs.turn_each.Goals as goal

pub loop-i-init : goal.loop-i-init
loop-i-init c = wrote_none

pub loop-i-preserved : goal.loop-i-preserved
loop-i-preserved c =
    let a = c.args in
    eight-more a.from.now a.start c.loop-i.invariant c.loop-i-test.true c.requires.0 c.requires.1 c.copy_ordered.ensures

pub returns : goal.returns
returns c =
    let a = c.args in
    wrote-done c.loop-i.invariant (omega arith) (omega arith) ∙ ap (store_at a.out.now a.at) (sym (eights-runs true a.from.now a.start a.n))
