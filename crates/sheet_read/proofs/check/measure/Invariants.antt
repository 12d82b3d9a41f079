-- What the loop keeps is `Measuring`: the entries so far, and those from here on, are all of them.
use Rattle.sheet.specs.inside.Steps.{width}
use Rattle.sheet_read.proofs.check.Walks.{Measuring}
use Rattle.sheet_read.proofs.check.measure.Given as goal

abbrev pub invariant-loop-entries : goal.invariant-loop-entries
invariant-loop-entries l = Measuring (width l.v) l.sheet l.most l.end l.entries l.values
