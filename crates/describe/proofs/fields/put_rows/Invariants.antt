-- What the loop keeps is `Listing`: the rows written so far with those of the fields ahead are all rows.
use Prim.Native.Nat.{◌-◌}
use lib.ListN.{length}
use Rattle.describe.specs.inside.Walk.{Holds}
use Rattle.describe.proofs.fields.Listing.{Listing, all}
use Rattle.describe.proofs.fields.put_rows.Given as goal

abbrev pub invariant-loop-at : goal.invariant-loop-at
invariant-loop-at l =
    (h : Holds l.text (length l.codes) l.codes) × Listing l.text (length l.codes) l.codes l.initial.out (all l.text (length l.codes) l.codes l.initial.out h) l.out l.t l.slot l.i l.at

abbrev pub decreases-loop-at : goal.decreases-loop-at
decreases-loop-at l = length l.text - l.at
