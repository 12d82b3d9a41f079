-- The loop keeps that the doubles from number i on decide: those before it are no NaN.
use native.Mathlib.Omega.{arith}
use mathlib.Core.Path.{sym, ◌∙◌}
use Rattle.reals.proofs.RealLaws.{from_start, stops_at, goes-past, from_end}
use Rattle.reals.proofs.no_nan.Goals as goal

pub loop-i-init : goal.loop-i-init
loop-i-init c = let a = c.args in from_start a.area.now a.start a.n

pub returns-then-is_nan : goal.returns-then-is_nan
returns-then-is_nan c =
    let a = c.args in
    stops_at a.area.now a.start a.n c.loop-i.i c.loop-i-test.true c.double_at.ensures c.is_nan.ensures c.if-is_nan.true ∙ sym c.loop-i.invariant

pub loop-i-preserved : goal.loop-i-preserved
loop-i-preserved c =
    let a = c.args in
    c.loop-i.invariant ∙ goes-past a.area.now a.start a.n c.loop-i.i c.loop-i-test.true c.double_at.ensures c.is_nan.ensures c.if-is_nan.false

pub returns : goal.returns
returns c =
    let a = c.args in
    from_end a.area.now a.start a.n c.loop-i.i (omega arith) ∙ sym c.loop-i.invariant
