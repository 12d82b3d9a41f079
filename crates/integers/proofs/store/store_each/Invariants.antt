-- Turn i stores integer i: the loop keeps `Wrote`, with each integer's low-order bytes as a run.
use Rattle.record.proofs.Stores.{Wrote}
use Rattle.integers.proofs.store.StoredLaws.{stored_at}
use Rattle.integers.proofs.store.store_each.Given as goal

abbrev pub invariant-loop-i : goal.invariant-loop-i
invariant-loop-i l = Wrote l.initial.out l.at (stored_at l.area l.start l.w l.big) l.out l.i
