-- The last turn's slots are those that all the numbers make.
use Rattle.std.proofs.Common.{arith}
use Rattle.slots.proofs.Runs.{saved-all}
use Rattle.slots.proofs.save.Goals as goal

pub returns : goal.returns
returns c =
    saved-all c.args.slots.now c.loop-i.slots c.args.numbers.now c.loop-i.i c.args.count c.loop-i.invariant
    (omega arith) (omega arith) (omega arith)
