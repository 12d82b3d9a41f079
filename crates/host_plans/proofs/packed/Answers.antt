-- Number by number, in the order of the definition: each return is one law of it.
use native.Mathlib.Omega.{arith}
use mathlib.Core.Path.{sym, ◌∙◌}
use Rattle.host_plans.proofs.Calls.{pack-place, pack-bad, pack-slots, packable, pack-fields, few-numbers, all-numbers}
use Rattle.host_plans.proofs.packed.Goals as goal

pub overflow_cast-e : goal.overflow_cast-e
overflow_cast-e c = omega (arith, pack-place c.requires c.in-Err.is)

pub returns-in-Err : goal.returns-in-Err
returns-in-Err c = pack-bad c.requires c.in-Err.is c.refused.ensures

pub returns-then-slots-fields : goal.returns-then-slots-fields
returns-then-slots-fields c = pack-slots c.requires c.in-Ok.is c.if-slots-fields.true c.refused-then-slots-fields.ensures

pub pack_in-requires : goal.pack_in-requires
pack_in-requires c = (packable c.requires c.in-Ok.is c.if-slots-fields.false, few-numbers (sym c.few.ensures ∙ c.if-few.true), omega arith)

pub pack_in-requires-else-few : goal.pack_in-requires-else-few
pack_in-requires-else-few c = (packable c.requires c.in-Ok.is c.if-slots-fields.false, all-numbers c.requires, omega arith)

pub returns-then-few : goal.returns-then-few
returns-then-few c = pack-fields c.requires c.in-Ok.is c.if-slots-fields.false c.pack_in.ensures

pub returns-else-few : goal.returns-else-few
returns-else-few c = pack-fields c.requires c.in-Ok.is c.if-slots-fields.false c.pack_in-else-few.ensures
