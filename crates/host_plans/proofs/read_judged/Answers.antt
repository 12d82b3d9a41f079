-- Each way out is one law of the reading by a plan.
use native.Mathlib.Omega.{arith}
use mathlib.Core.Path.{sym, ◌∙◌}
use Rattle.host_plans.proofs.Calls.{read-place, read-bad, readable, few-numbers, all-lent}
use Rattle.host_plans.proofs.read_judged.Goals as goal

pub overflow_cast-e : goal.overflow_cast-e
overflow_cast-e c = omega (arith, read-place c.requires c.in-Err.is)

pub returns-in-Err : goal.returns-in-Err
returns-in-Err c = read-bad c.requires c.in-Err.is c.refused.ensures c.reply_long.ensures

pub read_in-requires : goal.read_in-requires
read_in-requires c = (readable c.requires c.in-Ok.is, few-numbers (sym c.few.ensures ∙ c.if-few.true), omega arith)

pub read_in-requires-else-few : goal.read_in-requires-else-few
read_in-requires-else-few c = (readable c.requires c.in-Ok.is, all-lent c.requires, omega arith)
