-- The loop keeps that the doubles from number i on decide: those before it are no NaN.
use mathlib.Core.Path.{◌≡◌}
use lib.ListN.{drop}
use Rattle.record.specs.Table.{integers_in}
use Rattle.record.specs.Packing.{no_nan}
use Rattle.reals.proofs.RealLaws.{from}
use Rattle.reals.proofs.no_nan.Given as goal

abbrev pub invariant-loop-i : goal.invariant-loop-i
invariant-loop-i l = (no_nan (integers_in l.n (drop l.start l.area)) ≡ from l.area l.start l.n l.i)
