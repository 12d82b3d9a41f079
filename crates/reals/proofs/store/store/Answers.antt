-- Singles have a loop of their own; doubles are stored as integers of eight bytes.
use native.Mathlib.Omega.{arith}
use Rattle.reals.proofs.store.StoreLaws.{stored-doubles}
use Rattle.reals.proofs.store.store.Goals as goal

pub store_singles-requires : goal.store_singles-requires
store_singles-requires c = rw c.if-single.true at c.requires

pub returns-then-single : goal.returns-then-single
returns-then-single c = rw c.if-single.true c.store_singles.ensures

pub store-requires : goal.store-requires
store-requires c = let pre = rw c.if-single.false at c.requires in (omega arith, pre.0, pre.1)

pub returns : goal.returns
returns c = rw (c.if-single.false, ← stored-doubles) c.store.ensures
