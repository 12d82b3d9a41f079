-- The loop keeps `Reading`: the codes so far are the fields of the text before the place.
use Prim.Native.Nat.{◌-◌}
use lib.ListN.{length}
use Rattle.layout.proofs.Turns.{Reading}
use Rattle.layout.proofs.parser.parse.Given as goal

abbrev pub invariant-loop-packing : goal.invariant-loop-packing
invariant-loop-packing l = Reading l.packing l.text (length l.initial.codes) l.at l.count l.slots l.codes

abbrev pub decreases-loop-packing : goal.decreases-loop-packing
decreases-loop-packing l = length l.text - l.at
