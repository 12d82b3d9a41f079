-- The sign above the nearest single of the magnitude, which has 31 bits: by the usual way, or by the definition.
use Prim.Native.Nat.{◌-◌, ◌*◌, ◌^◌, ◌≤◌, ◌<◌}
use native.Mathlib.Omega.{arith}
use mathlib.Core.Path.{◌≡◌}
use Rattle.real.specs.Patterns.{double_body, single_infinity}
use Rattle.real.specs.Narrowing.{narrow_body}
use Rattle.real.proofs.NarrowLaws.{narrow-usual, narrow_signed, body-small}
use Rattle.real.proofs.narrow.Goals as goal

usual : (c : goal.After-rounded-r) → (896 * 2 ^ 23 ≤ c.rounded-r.result) × (c.rounded-r.result - 896 * 2 ^ 23 < single_infinity)
    × (c.rounded-r.result - 896 * 2 ^ 23 ≡ narrow_body (double_body c.args.d))
usual c = narrow-usual (double_body c.args.d) c.rounded-r.result c.if-p-ge4039728865751334912.true c.if-p-lt5183643170566569984.true c.rounded-r.ensures.0

pub overflow_sub-result : goal.overflow_sub-result
overflow_sub-result c = (usual c).0

pub overflow_cast-result : goal.overflow_cast-result
overflow_cast-result c = omega (arith, (usual c).1)

pub returns-then-p-lt5183643170566569984 : goal.returns-then-p-lt5183643170566569984
returns-then-p-lt5183643170566569984 c = narrow_signed c.args.d _ (usual c).2

pub overflow_add-result-2 : goal.overflow_add-result-2
overflow_add-result-2 c = omega (arith, body-small (double_body c.args.d))

pub overflow_cast-result-2 : goal.overflow_cast-result-2
overflow_cast-result-2 c = omega (arith, body-small (double_body c.args.d))

pub returns : goal.returns
returns c = narrow_signed c.args.d _ c.narrow_body.ensures
