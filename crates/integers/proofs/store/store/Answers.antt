-- One integer is stored by itself, as the law of one alone says; more are stored by a loop, and whole where they fill
-- eight bytes.
use native.Mathlib.Omega.{arith}
use mathlib.Core.Path.{ap, ◌∙◌}
use Rattle.record.specs.Bytes.{store_at}
use Rattle.integers.proofs.store.StoredLaws.{stored_one, eights-stored}
use Rattle.integers.proofs.store.store.Goals as goal

pub copy_ordered-requires : goal.copy_ordered-requires
copy_ordered-requires c =
    let pre = rw c.if-n-eq1.true at c.requires in
    omega (arith, pre.0, pre.1, pre.2)

pub returns-then-n-eq1 : goal.returns-then-n-eq1
returns-then-n-eq1 c =
    let a = c.args in
    let one = c.if-n-eq1.true in
    let pre = rw one at c.requires in
    rw one
    (c.copy_ordered.ensures
    ∙ ap (store_at a.out.now a.at) (stored_one a.area.now a.start a.w a.big (λ i. (c.type_inv.area i).fits) c.requires.0 (omega (arith, pre.2))))

pub copy_eights-requires : goal.copy_eights-requires
copy_eights-requires c =
    let pre = rw c.if-w-eq8.true at c.requires in
    (omega arith, omega arith)

pub returns-then-w-eq8 : goal.returns-then-w-eq8
returns-then-w-eq8 c =
    let a = c.args in
    let eight = c.if-w-eq8.true in
    let pre = rw eight at c.requires in
    rw eight
    (c.copy_eights.ensures
    ∙ ap (store_at a.out.now a.at) (eights-stored a.area.now a.start a.big a.n (λ i. (c.type_inv.area i).fits) pre.2))
