-- What the loop keeps is `Sizing`: the slots before k fit, and the header with their entries takes `size` bytes.
use Rattle.sheet_write.proofs.store.Writing.{Sizing}
use Rattle.sheet_write.proofs.store.measure.Given as goal

abbrev pub invariant-loop-k : goal.invariant-loop-k
invariant-loop-k l = Sizing 2 l.area l.slots l.k l.size
