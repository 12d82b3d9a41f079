-- Turn i copies run i: the loop keeps `Wrote`.
use mathlib.Core.Bool.{true}
use Rattle.record.proofs.Stores.{Wrote}
use Rattle.integers.proofs.IntegerLaws.{eight_at}
use Rattle.integers.proofs.turn_each.Given as goal

abbrev pub invariant-loop-i : goal.invariant-loop-i
invariant-loop-i l = Wrote l.initial.out l.at (eight_at true l.from l.start) l.out l.i
