-- The ones of the exclusive or are the places at which the digits differ.
use native.Mathlib.Omega.{arith}
use Rattle.compare.proofs.difference.Bits.{xor-bits}
use Rattle.compare.proofs.difference.byte_bits.Goals as goal

pub returns : goal.returns
returns c = xor-bits 8 _ _ (omega arith) (omega arith)
