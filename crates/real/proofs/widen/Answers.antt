-- A normal single keeps its fraction, and its exponent goes up by 896; of any other the pattern below the sign stays
-- below 2^63.
use Prim.Native.Nat.{◌%◌, ◌^◌}
use native.Mathlib.Omega.{arith}
use Rattle.real.specs.Widening.{double_of}
use Rattle.real.proofs.WidenLaws.{body_below, usual-double}
use Rattle.real.proofs.widen.Goals as goal

pub returns-then-p-lt2139095040 : goal.returns-then-p-lt2139095040
returns-then-p-lt2139095040 c = usual-double c.args.s c.if-p-ge8388608.true c.if-p-lt2139095040.true

pub overflow_add-result-2 : goal.overflow_add-result-2
overflow_add-result-2 c = omega (arith, body_below (c.args.s % 2 ^ 31) (omega arith))

pub returns : goal.returns
unfolding double_of
returns c = rw c.widen_body.ensures
