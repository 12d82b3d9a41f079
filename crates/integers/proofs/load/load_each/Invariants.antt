-- Turn i reads integer i: the loop keeps `Wrote`, with each integer's eight bytes as a run.
use Rattle.record.proofs.Stores.{Wrote}
use Rattle.integers.proofs.load.LoadedLaws.{loaded_at}
use Rattle.integers.proofs.load.load_each.Given as goal

abbrev pub invariant-loop-i : goal.invariant-loop-i
invariant-loop-i l = Wrote l.initial.area l.to (loaded_at l.input l.at l.w l.big l.unsigned) l.area l.i
