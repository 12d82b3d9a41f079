-- Place and bits of the common part are those of the whole values.

use Rattle.std.proofs.Common.{arith, take}
use lib.ListN.{length-take}
use Rattle.compare.proofs.difference.Runs.{difference-few}
use Rattle.compare.proofs.difference.Pairs.{both-same, both-differ}
use Rattle.compare.proofs.difference.both_finding.Goals as goal

pub returns-then-same : goal.returns-then-same
returns-then-same c = both-same c.args.first.now c.args.second.now c.same.ensures c.if-same.true

pub overflow_cast-place : goal.overflow_cast-place
overflow_cast-place c =
    let first = take c.min-common.result c.args.first.now in
    omega (arith, c.first_difference-place.ensures, difference-few first (take c.min-common.result c.args.second.now), length-take c.min-common.result c.args.first.now)

pub returns : goal.returns
returns c =
    both-differ c.args.first.now c.args.second.now c.same.ensures c.if-same.false c.min-common.ensures c.first_difference-place.ensures c.differing_bits-bits.ensures
