-- Each way out is the law of a range of numbers.
use Prim.Native.Nat.{◌%◌}
use native.Mathlib.Omega.{arith}
use Rattle.layout.specs.Codes.{flag_unit, field_of}
use Rattle.promises.proofs.Same.{type-low, type-skip, type-goto, type-rest}
use Rattle.promises.proofs.type_in.Goals as goal

pub returns-in-0-to-17 : goal.returns-in-0-to-17
unfolding field_of
returns-in-0-to-17 c = type-low _ (omega arith)

pub returns-in-24 : goal.returns-in-24
unfolding field_of
returns-in-24 c = type-skip _ (omega arith)

pub returns-in-26 : goal.returns-in-26
unfolding field_of
returns-in-26 c = type-goto _ (omega arith)

pub returns-in_default : goal.returns-in_default
unfolding field_of
returns-in_default c = type-rest (c.args.code % flag_unit) (omega arith) (λ e. omega arith) (λ e. omega arith)
