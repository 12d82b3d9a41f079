-- Turn i stores integer i: the loop keeps `Wrote`, with each integer's low-order bytes as a run.
use Prim.Native.Nat.{◌+◌, ◌*◌}
use native.Mathlib.Omega.{arith}
use mathlib.Core.Path.{refl, ap, ◌∙◌}
use Rattle.record.specs.Bytes.{store_at}
use Rattle.record.proofs.Fields.{length-item}
use Rattle.record.proofs.Stores.{wrote_none, wrote-more, wrote-done, next-run}
use Rattle.integers.proofs.store.StoredLaws.{stored-item, stored-runs}
use Rattle.integers.proofs.store.store_each.Goals as goal

pub loop-i-init : goal.loop-i-init
loop-i-init c = wrote_none

pub loop-i-preserved : goal.loop-i-preserved
loop-i-preserved c =
    let loop = c.loop-i in
    let a = c.args in
    let bytes = stored-item a.area.now (a.start + loop.i * 8) a.w a.big (λ i. (c.type_inv.area i).fits) c.requires.0 (omega arith) in
    wrote-more a.w (λ k. length-item a.w a.big _) loop.invariant refl (omega (arith, next-run a.w c.loop-i-test.true))
    (c.copy_ordered.ensures ∙ ap (store_at loop.out (a.at + loop.i * a.w)) bytes)

pub returns : goal.returns
returns c =
    let a = c.args in
    wrote-done c.loop-i.invariant (omega arith) (omega arith) ∙ ap (store_at a.out.now a.at) (stored-runs a.area.now a.start a.w a.big a.n)
