-- Turn i stores double i as a single: the loop keeps `Wrote`, with the four bytes of each single as a run.
use native.Mathlib.Omega.{arith}
use mathlib.Core.Path.{refl, ap, ◌∙◌}
use Rattle.record.specs.Bytes.{store_at}
use Rattle.record.proofs.Stores.{wrote_none, wrote-more, wrote-done}
use Rattle.reals.proofs.store.StoreLaws.{length-single_bytes, stored-singles}
use Rattle.reals.proofs.store.store_singles.Goals as goal

pub loop-i-init : goal.loop-i-init
loop-i-init c = wrote_none

pub loop-i-preserved : goal.loop-i-preserved
loop-i-preserved c =
    let a = c.args in
    wrote-more 4 (λ k. length-single_bytes a.big _) c.loop-i.invariant refl (omega arith) c.store_single.ensures

pub returns : goal.returns
returns c =
    let a = c.args in
    wrote-done c.loop-i.invariant (omega arith) (omega arith) ∙ ap (store_at a.out.now a.at) (stored-singles a.area.now a.start a.big a.n)
