-- What the loop keeps is `Passing`: the pass from here on ends where the pass from the start does.
use lib.ListN.{length}
use Rattle.describe.proofs.Calls.{Passing}
use Rattle.describe.proofs.least_length.Given as goal

abbrev pub invariant-loop-code : goal.invariant-loop-code
invariant-loop-code l = Passing (length l.codes) l.codes l.code-index l.c
