-- Turn i reads single i: the loop keeps `Wrote`, with the eight bytes of each double as a run.
use Rattle.record.proofs.Stores.{Wrote}
use Rattle.reals.proofs.load.LoadLaws.{loaded_at}
use Rattle.reals.proofs.load.load_singles.Given as goal

abbrev pub invariant-loop-i : goal.invariant-loop-i
invariant-loop-i l = Wrote l.initial.area l.to (loaded_at l.input l.at l.big) l.area l.i
