-- The first i digits are put after the letter and the flag.
use Rattle.record.proofs.Stores.{Put}
use Rattle.perl.proofs.items.put.Given as goal

abbrev pub invariant-loop-i : goal.invariant-loop-i
invariant-loop-i l = Put l.initial.out l.count l.digits l.out l.i
