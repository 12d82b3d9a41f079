-- A code's type number says what its field is; an argument that passes the quick test is refused by no line, and its
-- field takes the bytes that the test tells.
use native.Mathlib.Omega.{arith}
use mathlib.Core.Path.{ap, ◌∙◌}
use Rattle.std.specs.declared.result.Result.TheVariants.{Ok}
use Rattle.layout.specs.inside.Parsing.{FitCount}
use Rattle.pack_check.proofs.measuring.MeasureLaws.{ready-data, quick-next, quick-few}
use Rattle.pack_check.proofs.measuring.step.Goals as goal

pub slot_at-a-requires : goal.slot_at-a-requires
slot_at-a-requires c =
    let ready = ready-data _ _ _ _ c.requires c.if-d-le-LAST_DATA.true in omega (arith, ready.slot)

pub store-requires : goal.store-requires
store-requires c =
    let ready = ready-data _ _ _ _ c.requires c.if-d-le-LAST_DATA.true in
    let sound = c.try_argument-q.ensures _ c.amount.ensures in
    let fits : FitCount c.count_from-n.result = rw c.count_from-n.ensures ready.count_fits in
    let few = quick-few _ _ _ _ _ sound _ c.in-Some.is ready.role_fits fits (omega arith) in
    omega (arith, few, ready.near)

pub returns-in-Some : goal.returns-in-Some
returns-in-Some c =
    let sound = c.try_argument-q.ensures _ c.amount.ensures in
    ap Ok c.store.ensures
    ∙ quick-next _ _ _ _ _ c.if-d-le-LAST_DATA.true _ c.slot_at-a.ensures _ c.count_from-n.ensures _ sound _ c.in-Some.is
