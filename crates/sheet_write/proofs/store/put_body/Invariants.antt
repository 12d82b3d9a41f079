-- What the loop keeps is `Storing`: the entries so far stand after the header.
use Rattle.sheet.specs.inside.Steps.{width}
use Rattle.sheet_write.proofs.store.Writing.{Storing}
use Rattle.sheet_write.proofs.store.put_body.Given as goal

abbrev pub invariant-loop-k : goal.invariant-loop-k
invariant-loop-k l = Storing (width l.v) l.area l.slots l.initial.out l.out l.k l.at
