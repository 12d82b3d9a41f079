-- A plan that is served has room in the codes; the rest is as in `packer::pack`.
use mathlib.Core.Path.{◌≡◌, sym, ◌∙◌}
use mathlib.Core.Bool.{true}
use lib.ListN.{length}
use Rattle.record.specs.Geometry.{lengths_fit}
use Rattle.record.proofs.Sizes.{Sized, sized}
use Rattle.plans.proofs.Calls.{plan-sizes, plan-read, plan-packed}
use Rattle.plans.proofs.pack.Goals as goal

pub returns-then-not-lengths_fit : goal.returns-then-not-lengths_fit
returns-then-not-lengths_fit c = rw c.refused.ensures (plan-sizes _ _ _ _ (sym c.lengths_fit.ensures ∙ c.if-not-lengths_fit.true))

pub judge-p-requires : goal.judge-p-requires
judge-p-requires c =
    let fine : lengths_fit (length c.args.plan.now) (length c.args.slots.now) (length c.args.output.now) (length c.args.area.now) ≡ true = sym c.lengths_fit.ensures ∙ c.if-not-lengths_fit.false in
    let limits : Sized (length c.args.plan.now) (length c.args.slots.now) (length c.args.output.now) (length c.args.area.now) = sized (fine) in (limits).text

pub packed-requires : goal.packed-requires
packed-requires c =
    let fine : lengths_fit (length c.args.plan.now) (length c.args.slots.now) (length c.args.output.now) (length c.args.area.now) ≡ true = sym c.lengths_fit.ensures ∙ c.if-not-lengths_fit.false in
    (_, _, plan-read _ _ _ _ (fine) c.judge-p.ensures)

pub returns : goal.returns
returns c =
    let fine : lengths_fit (length c.args.plan.now) (length c.args.slots.now) (length c.args.output.now) (length c.args.area.now) ≡ true = sym c.lengths_fit.ensures ∙ c.if-not-lengths_fit.false in
    plan-packed _ _ _ _ (fine) c.judge-p.ensures c.packed.ensures
