-- The loop keeps that the first k bytes of the field are in their place.

use Rattle.layout.specs.declared.Shape.TheVariants.{Digits}
use Rattle.record.specs.Packing.{stored}
use Rattle.record.proofs.Stores.{Put}
use Rattle.digits.proofs.store.store_hex.Given as goal
use Rattle.std.proofs.Common.{true}

abbrev pub invariant-loop-k : goal.invariant-loop-k
invariant-loop-k l = Put l.fn.out l.at (stored (Digits true l.high) l.n l.given) l.out l.k
