-- A significand below 2^24 has 40 zeros more in 64 bits.
use native.Mathlib.Omega.{arith}
use Rattle.real.proofs.WidenLaws.{zeros_of}
use Rattle.real.proofs.zeros.Goals as goal

pub overflow_sub-result : goal.overflow_sub-result
overflow_sub-result c = omega (arith, zeros_of c.args.n c.requires)

pub returns : goal.returns
returns c = omega (arith, zeros_of c.args.n c.requires)
