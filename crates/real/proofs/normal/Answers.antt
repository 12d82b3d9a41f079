-- Shifted up, a significand stays below 2^53.
use Prim.Native.Nat.{◌+◌, ◌*◌, ◌^◌, ◌%◌, ◌≤◌, ◌<◌}
use mathlib.Core.Path.{◌≡◌, refl}
use native.Mathlib.Nat.{mod-eq_of_lt}
use native.Mathlib.Omega.{arith}
use Rattle.real.specs.Widening.{normal}
use Rattle.real.proofs.WidenLaws.{normal-fits}
use Rattle.real.proofs.normal.Goals as goal

fits : (c : goal.After-zeros-z) → (c.zeros-z.result ≤ 23) × (c.args.n * 2 ^ (29 + c.zeros-z.result) < 2 ^ 53)
fits c = normal-fits c.args.n c.requires.1 c.requires.2 _ _ c.zeros-z.ensures refl

shifted : (c : goal.After-zeros-z) → c.args.n * 2 ^ (29 + c.zeros-z.result) % 2 ^ 64 ≡ c.args.n * 2 ^ (29 + c.zeros-z.result)
shifted c = mod-eq_of_lt (omega (arith, fits c))

pub overflow_sub-result : goal.overflow_sub-result
overflow_sub-result c = omega (arith, fits c)

pub overflow_add-result-3 : goal.overflow_add-result-3
overflow_add-result-3 c = omega (arith, shifted c, fits c)

pub returns : goal.returns
unfolding normal
returns c = rw (shifted c, c.zeros-z.ensures)
