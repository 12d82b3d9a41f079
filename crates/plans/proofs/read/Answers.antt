-- Each way out is one law of the reading by a plan; what was tested on the way is its premise.
use lib.ListN.{length}
use native.Mathlib.Omega.{arith}
use mathlib.Core.Path.{sym, ◌∙◌}
use mathlib.Core.Bool.{false}
use Rattle.layout.proofs.Decoded.{parsed-fields, parsed-refused, learnt-front}
use Rattle.reader.proofs.checking.Calls.{Fit, fit, sizes-refuse-fields, fields-refuse}
use Rattle.reader.proofs.passes.Whole.{ready}
use Rattle.plans.proofs.Calls.{plan-inside, plan-refused, plan-codes}
use Rattle.plans.proofs.read.Goals as goal

pub returns-then-not-sizes_fit : goal.returns-then-not-sizes_fit
returns-then-not-sizes_fit c =
    rw c.refused.ensures (plan-refused _ _ _ _ _ (sizes-refuse-fields _ _ _ _ _ _ (sym c.sizes_fit.ensures ∙ c.if-not-sizes_fit.true)))

pub judge-requires : goal.judge-requires
judge-requires c =
    let sized : Fit (length c.args.plan.now) (length c.args.slots.now) (length c.args.bytes.now) (length c.args.area.now) c.args.mark = fit (sym c.sizes_fit.ensures ∙ c.if-not-sizes_fit.false) in
    sized.text

pub overflow_cast-e : goal.overflow_cast-e
overflow_cast-e c =
    let sized : Fit (length c.args.plan.now) (length c.args.slots.now) (length c.args.bytes.now) (length c.args.area.now) c.args.mark = fit (sym c.sizes_fit.ensures ∙ c.if-not-sizes_fit.false) in
    omega (arith, sized.text, plan-inside false _ _ _ (parsed-refused _ _ _ _ c.judge.ensures c.in-Err.is))

pub read-requires : goal.read-requires
read-requires c =
    let sized : Fit (length c.args.plan.now) (length c.args.slots.now) (length c.args.bytes.now) (length c.args.area.now) c.args.mark = fit (sym c.sizes_fit.ensures ∙ c.if-not-sizes_fit.false) in
    let l = learnt-front (parsed-fields _ _ _ _ c.judge.ensures c.in-Ok.is) in
    ready _ _ _ _ _ _ sized l

pub returns-in-Err : goal.returns-in-Err
returns-in-Err c =
    let sized : Fit (length c.args.plan.now) (length c.args.slots.now) (length c.args.bytes.now) (length c.args.area.now) c.args.mark = fit (sym c.sizes_fit.ensures ∙ c.if-not-sizes_fit.false) in
    rw c.refused-in-Err.ensures (plan-refused _ _ _ _ _ (fields-refuse _ _ _ _ _ _ sized (parsed-refused _ _ _ _ c.judge.ensures c.in-Err.is)))

pub returns-in-Ok : goal.returns-in-Ok
returns-in-Ok c =
    let sized : Fit (length c.args.plan.now) (length c.args.slots.now) (length c.args.bytes.now) (length c.args.area.now) c.args.mark = fit (sym c.sizes_fit.ensures ∙ c.if-not-sizes_fit.false) in
    let l = learnt-front (parsed-fields _ _ _ _ c.judge.ensures c.in-Ok.is) in
    plan-codes _ _ _ _ _ sized l c.read.ensures
