-- Eight bytes are copied whole, in their order or turned round; others are read by the loop.
use mathlib.Core.Path.{ap, ◌∙◌}
use Rattle.record.specs.Bytes.{store_at}
use Rattle.integers.proofs.load.LoadedLaws.{eights-loaded}
use Rattle.integers.proofs.load.load.Goals as goal

pub copy_eights-requires : goal.copy_eights-requires
copy_eights-requires c =
    let pre = rw c.if-w-eq8.true at c.requires in
    (pre.1, pre.2)

pub returns-then-w-eq8 : goal.returns-then-w-eq8
returns-then-w-eq8 c =
    let a = c.args in
    let eight = c.if-w-eq8.true in
    let pre = rw eight at c.requires in
    rw eight
    (c.copy_eights.ensures
    ∙ ap (store_at a.area.now a.to) (eights-loaded a.input.now a.at a.big a.unsigned a.n (λ i. (c.type_inv.input i).fits) pre.2))
