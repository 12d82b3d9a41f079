-- Type, flag and count are the three parts of the code, each decoded by its own function.
use native.Mathlib.Omega.{arith}
use Rattle.layout.specs.Codes.{field_of}
use Rattle.layout.proofs.Steps.{field_fits}
use Rattle.layout.proofs.field_of.Goals as goal

pub returns : goal.returns
unfolding field_of
returns c = field_fits _ _ (omega arith) (cc)
