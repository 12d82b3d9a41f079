-- Each way out is one law of the definition; what was tested on the way is its premise.
use native.Mathlib.Omega.{arith}
use mathlib.Core.Path.{ap}
use mathlib.Core.Bool.{false}
use mathlib.Core.List.{List, ◌++◌}
use Prim.Native.Nat.{ℕ}
use lib.ListN.{drop}
use Rattle.layout.proofs.Decoded.{parsed-fields, parsed-refused}
use Rattle.layout.proofs.Places.{refused-inside}
use Rattle.plans.proofs.Calls.{taken-few, prepare-size, prepare-refused, prepare-room, prepare-done}
use Rattle.plans.proofs.prepare.Goals as goal

pub returns-then-layout-gt-MAX_LAYOUT : goal.returns-then-layout-gt-MAX_LAYOUT
returns-then-layout-gt-MAX_LAYOUT c = rw c.refused.ensures (prepare-size _ _ c.if-layout-gt-MAX_LAYOUT.true)

pub overflow_cast-e : goal.overflow_cast-e
overflow_cast-e c =
    omega (arith, c.if-layout-gt-MAX_LAYOUT.false, refused-inside false _ _ _ (parsed-refused _ _ _ _ c.parse.ensures c.in-Err.is))

pub returns-in-Err : goal.returns-in-Err
returns-in-Err c =
    rw c.refused-in-Err.ensures (prepare-refused _ _ c.if-layout-gt-MAX_LAYOUT.false _ _ (parsed-refused _ _ _ _ c.parse.ensures c.in-Err.is))

pub returns-then-run-n : goal.returns-then-run-n
returns-then-run-n c =
    rw c.refused-then-run-n.ensures (prepare-room _ _ c.if-layout-gt-MAX_LAYOUT.false c.parse.ensures c.in-Ok.is c.if-run-n.true)

pub overflow_cast-fields : goal.overflow_cast-fields
overflow_cast-fields c =
    let l = parsed-fields _ _ _ _ c.parse.ensures c.in-Ok.is in
    omega (arith, l.few, l.room, taken-few l)

pub returns : goal.returns
returns c =
    rw c.accepted.ensures
    (prepare-done _ _ c.if-layout-gt-MAX_LAYOUT.false c.parse.ensures c.in-Ok.is c.if-run-n.false
    (ap (λ (codes : List ℕ). codes ++ drop c.in-Ok.fields.count c.args.run.now) c.copy_from_slice.ensures.after))
