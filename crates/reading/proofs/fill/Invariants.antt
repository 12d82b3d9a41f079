-- The values so far are a ghost of the invariant: table and area are those lent with these values put in, and the
-- fields that are left complete them.
use lib.ListN.{length}
use Rattle.layout.specs.inside.Parsing.{decoded}
use Rattle.reading.proofs.Tables.{Written}
use Rattle.reading.proofs.fill.Given as goal

abbrev pub invariant-loop-i : goal.invariant-loop-i
invariant-loop-i l = Written l.bytes (decoded (length l.codes) l.codes) l.initial.slots l.initial.area l.mark l.i l.c l.set l.place l.slots l.area
