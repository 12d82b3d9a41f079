-- What the loop keeps is `Walking`: of the fields from here on, number `left` is the one that is looked for.
use native.Mathlib.Omega.{arith}
use Rattle.promises.proofs.Places.{walking-none, walking-space, walking-found, walking_on, walking-done}
use Rattle.promises.proofs.place_of.Goals as goal

pub loop-at-init : goal.loop-at-init
loop-at-init c = walking-none _ _

pub loop-at-preserved-then-text-at-eq32 : goal.loop-at-preserved-then-text-at-eq32
loop-at-preserved-then-text-at-eq32 c = walking-space _ _ _ _ c.loop-at.invariant c.loop-at-test.true c.if-text-at-eq32.true

pub returns-then-left-eq0 : goal.returns-then-left-eq0
returns-then-left-eq0 c = walking-found _ _ _ _ c.loop-at.invariant c.loop-at-test.true c.if-text-at-eq32.false c.if-left-eq0.true

pub loop-at-preserved : goal.loop-at-preserved
loop-at-preserved c =
    walking_on _ _ _ _ c.loop-at.invariant c.loop-at-test.true c.if-text-at-eq32.false c.if-left-eq0.false _ _ _ c.tail_at-at.ensures

pub loop-at-smaller : goal.loop-at-smaller
loop-at-smaller c = omega (arith, (loop-at-preserved c).within, c.tail_at-at.ensures)

pub returns : goal.returns
returns c = walking-done _ _ _ _ c.loop-at.invariant c.loop-at-test.false
