-- Turn i stores number i: the loop keeps `Put`.
use Rattle.record.proofs.Stores.{Put}
use Rattle.host.specs.Numbers.{numbers_in}
use Rattle.host.proofs.numbers.decode.Given as goal

abbrev pub invariant-loop-i : goal.invariant-loop-i
invariant-loop-i l = Put l.initial.numbers 0 (numbers_in l.bytes) l.numbers l.i
