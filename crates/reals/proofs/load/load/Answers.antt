-- Singles have a loop of their own; doubles are read as unsigned integers of eight bytes.
use native.Mathlib.Omega.{arith}
use mathlib.Core.Path.{refl}
use Rattle.reals.proofs.load.LoadLaws.{loaded-doubles}
use Rattle.reals.proofs.load.load.Goals as goal

pub load_singles-requires : goal.load_singles-requires
load_singles-requires c = rw c.if-single.true at c.requires

pub returns-then-single : goal.returns-then-single
returns-then-single c = rw c.if-single.true c.load_singles.ensures

pub load-requires : goal.load-requires
load-requires c = let pre = rw c.if-single.false at c.requires in ((omega arith, omega arith, refl), pre.0, pre.1)

pub returns : goal.returns
returns c = λ u. rw (c.if-single.false, ← loaded-doubles) c.load.ensures
