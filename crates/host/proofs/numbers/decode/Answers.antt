-- Turn i stores number i: the loop keeps `Put`.
use native.Mathlib.Omega.{arith}
use Rattle.host.proofs.numbers.NumberLaws.{decoded-more, decoded}
use Rattle.host.proofs.numbers.decode.Goals as goal

pub loop-i-preserved : goal.loop-i-preserved
loop-i-preserved c = decoded-more c.args.bytes.now c.loop-i.invariant c.requires (omega arith) c.number_at.ensures

pub returns : goal.returns
returns c = decoded c.args.bytes.now c.loop-i.invariant c.requires (omega arith)
