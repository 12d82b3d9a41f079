-- Turn i stores double i as a single: the loop keeps `Wrote`, with the four bytes of each single as a run.
use Rattle.record.proofs.Stores.{Wrote}
use Rattle.reals.proofs.store.StoreLaws.{stored_at}
use Rattle.reals.proofs.store.store_singles.Given as goal

abbrev pub invariant-loop-i : goal.invariant-loop-i
invariant-loop-i l = Wrote l.initial.out l.at (stored_at l.area l.start l.big) l.out l.i
