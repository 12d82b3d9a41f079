-- The values so far are a ghost of the invariant: their bytes are counted, and the fields that are left complete them.
use lib.ListN.{length}
use Rattle.layout.specs.inside.Parsing.{decoded}
use Rattle.reading.proofs.measure.Measured.{Measured}
use Rattle.reading.proofs.measure.measure.Given as goal

abbrev pub invariant-loop-code : goal.invariant-loop-code
invariant-loop-code l = Measured l.bytes (decoded (length l.codes) l.codes) l.code-index l.c l.size
