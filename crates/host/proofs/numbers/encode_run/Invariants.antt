-- Turn i stores the bytes of number i: the loop keeps `Wrote`.
use Rattle.record.proofs.Stores.{Wrote}
use Rattle.host.proofs.numbers.NumberLaws.{encoded_at}
use Rattle.host.proofs.numbers.encode_run.Given as goal

abbrev pub invariant-loop-i : goal.invariant-loop-i
invariant-loop-i l = Wrote l.initial.out 0 (encoded_at l.numbers) l.out l.i
