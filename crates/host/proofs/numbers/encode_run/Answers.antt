-- Turn i stores the bytes of number i: the loop keeps `Wrote`.
use native.Mathlib.Omega.{arith}
use Rattle.record.proofs.Stores.{wrote_none}
use Rattle.host.proofs.numbers.NumberLaws.{encoded-more, encoded}
use Rattle.host.proofs.numbers.encode_run.Goals as goal

pub loop-i-init : goal.loop-i-init
loop-i-init c = wrote_none

pub loop-i-preserved : goal.loop-i-preserved
loop-i-preserved c = encoded-more c.args.numbers.now c.loop-i.invariant (omega arith) c.requires c.put_number.ensures

pub returns : goal.returns
returns c = encoded c.args.numbers.now c.loop-i.invariant (omega arith)
