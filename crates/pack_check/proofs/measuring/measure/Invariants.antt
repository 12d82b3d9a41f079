-- What the loop keeps is `Measuring`: the pass from here on gives what the pass from the start gives.
use Rattle.pack_check.proofs.measuring.MeasureLaws.{Measuring}
use Rattle.pack_check.proofs.measuring.measure.Given as goal

abbrev pub invariant-loop-code : goal.invariant-loop-code
invariant-loop-code l = Measuring l.area l.codes l.slots l.code-index l.k l.c
