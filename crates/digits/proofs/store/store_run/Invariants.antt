-- The loop keeps that the steps up to the number k are done.

use Rattle.digits.specs.Steps.{storing, Advanced}
use Rattle.digits.proofs.store.store_run.Given as goal

abbrev pub invariant-loop-k : goal.invariant-loop-k
invariant-loop-k l = Advanced (storing l.high l.digits l.at) l.n l.from l.k l.fn.out l.out
