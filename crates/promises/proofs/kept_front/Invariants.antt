-- What the loop keeps is `Kept`: the first i fields keep the promise and have come as far as r, and the number looked
-- for is i and what the fields from i on give.
use Prim.Native.Nat.{◌*◌, ◌≤◌}
use lib.ListN.{length}
use Rattle.promises.specs.Promises.{Promise}
use Rattle.promises.specs.inside.Walk.{Judges, code_reach}
use Rattle.promises.proofs.Fronts.{Kept}
use Rattle.promises.proofs.kept_front.Given as goal

abbrev pub invariant-loop-i : goal.invariant-loop-i
invariant-loop-i g l =
    (l.r.slots ≤ l.i) × (l.r.end ≤ l.i * code_reach)
    × ((q : Promise) → Judges (goal.F-post g l.fn.kept) q → Kept q (length l.codes) l.codes l.i l.r)
