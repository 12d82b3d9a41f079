-- Half of 2^k is at most 2^53, so no sum wraps.
use Prim.Native.Nat.{◌-◌, ◌*◌, ◌^◌, ◌%◌}
use native.Mathlib.Omega.{arith}
use mathlib.Core.Path.{◌≡◌, refl}
use lib.Pow.{pow_pos}
use Rattle.std.proofs.lemmas.Nat.{one_shl}
use Rattle.real.specs.Narrowing.{rounded}
use Rattle.real.proofs.NarrowLaws.{rounded-le}
use Rattle.real.proofs.rounded.Goals as goal

half : (c : goal.Start) → 1 * 2 ^ (c.args.k - 1) % 2 ^ 64 ≡ 2 ^ (c.args.k - 1)
half c = one_shl (c.args.k - 1) 64 (omega arith)

pub overflow_sub-half : goal.overflow_sub-half
overflow_sub-half c = omega (arith, half c, pow_pos (c.args.k - 1))

pub returns : goal.returns
unfolding rounded
returns c = rw (half c) (refl, omega (arith, rounded-le c.args.k c.args.n c.requires.1))
