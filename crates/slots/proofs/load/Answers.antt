-- The last turn's numbers are those of all the slots that are taken.
use Rattle.std.proofs.Common.{arith}
use Rattle.slots.proofs.Runs.{loaded-all}
use Rattle.slots.proofs.load.Goals as goal

pub returns-clause-numbers : goal.returns-clause-numbers
returns-clause-numbers c = (
  c.taken-count.ensures.value,
  loaded-all c.args.slots.now c.args.numbers.now c.loop-i.numbers c.loop-i.i c.taken-count.result c.loop-i.invariant
      (omega arith) (omega (arith, c.taken-count.ensures.within)) (omega (arith, c.taken-count.ensures.within)),
)
