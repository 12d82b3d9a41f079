-- What the loop keeps is `Alike`: the first i fields are the same, and the number looked for is i and what the fields
-- from i on give.
use lib.ListN.{length}
use Rattle.promises.proofs.Fronts.{Alike}
use Rattle.promises.proofs.same_front.Given as goal

abbrev pub invariant-loop-i : goal.invariant-loop-i
invariant-loop-i l = Alike (length l.old) l.old (length l.new) l.new l.i
