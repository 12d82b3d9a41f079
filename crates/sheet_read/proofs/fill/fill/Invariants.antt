-- What the loop keeps is `Filling`: table and area hold the entries so far.
use Rattle.sheet.specs.inside.Steps.{width}
use Rattle.sheet_read.proofs.fill.Filling.{Filling}
use Rattle.sheet_read.proofs.fill.fill.Given as goal

abbrev pub invariant-loop-set : goal.invariant-loop-set
invariant-loop-set l = Filling (width l.v) l.sheet l.count l.initial.slots l.initial.area l.mark l.at l.set l.place l.slots l.area
