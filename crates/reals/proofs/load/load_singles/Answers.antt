-- Turn i reads single i: the loop keeps `Wrote`, with the eight bytes of each double as a run.
use native.Mathlib.Omega.{arith}
use mathlib.Core.Path.{refl, ap, ◌∙◌}
use Rattle.record.specs.Bytes.{store_at}
use Rattle.record.proofs.Stores.{wrote_none, wrote-more, wrote-done}
use Rattle.reals.proofs.load.LoadLaws.{length-double_bytes, loaded-singles}
use Rattle.reals.proofs.load.load_singles.Goals as goal

pub loop-i-init : goal.loop-i-init
loop-i-init c = wrote_none

pub loop-i-preserved : goal.loop-i-preserved
loop-i-preserved c =
    let a = c.args in
    wrote-more 8 (λ k. length-double_bytes a.big _) c.loop-i.invariant refl (omega arith) c.load_single.ensures

pub returns : goal.returns
returns c = λ u.
    let a = c.args in
    wrote-done c.loop-i.invariant (omega arith) (omega arith) ∙ ap (store_at a.area.now a.to) (loaded-singles a.input.now a.at a.big u a.n)
