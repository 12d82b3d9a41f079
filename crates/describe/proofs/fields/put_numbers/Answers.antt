-- Turn j stores the bytes of number j: the loop keeps `Wrote`.
use native.Mathlib.Omega.{arith}
use Rattle.record.proofs.Stores.{wrote_none}
use Rattle.describe.proofs.fields.RowLaws.{put_next, put_all}
use Rattle.describe.proofs.fields.put_numbers.Goals as goal

pub loop-j-init : goal.loop-j-init
loop-j-init c = wrote_none

pub loop-j-preserved : goal.loop-j-preserved
loop-j-preserved c =
    put_next c.args.at c.args.numbers.now c.loop-j.invariant c.loop-j-test.true c.requires (rw c.from.ensures at c.put_number.ensures)

pub returns : goal.returns
returns c = put_all c.args.numbers.now c.loop-j.invariant (omega arith)
