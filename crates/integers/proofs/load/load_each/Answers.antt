-- Turn i reads integer i: the loop keeps `Wrote`, with each integer's eight bytes as a run.
use native.Mathlib.Omega.{arith}
use mathlib.Core.Path.{refl, ap, ◌∙◌}
use Rattle.record.specs.Bytes.{store_at}
use Rattle.record.proofs.Stores.{wrote_none, wrote-more, wrote-done}
use Rattle.integers.proofs.load.LoadedLaws.{length-item_bytes, loaded-runs}
use Rattle.integers.proofs.load.load_each.Goals as goal

pub loop-i-init : goal.loop-i-init
loop-i-init c = wrote_none

pub loop-i-preserved : goal.loop-i-preserved
loop-i-preserved c =
    let a = c.args in
    wrote-more 8 (λ k. length-item_bytes a.w a.big a.unsigned _) c.loop-i.invariant refl (omega arith) c.load_item.ensures

pub returns : goal.returns
returns c =
    let a = c.args in
    wrote-done c.loop-i.invariant (omega arith) (omega arith) ∙ ap (store_at a.area.now a.to) (loaded-runs a.input.now a.at a.w a.big a.unsigned a.n)
