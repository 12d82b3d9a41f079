-- What the loop keeps is `Alike`: the first i fields are the same, and the number looked for is i and what the fields
-- from i on give.
use mathlib.Core.Path.{◌≡◌, sym, ◌∙◌}
use native.Mathlib.Omega.{arith}
use Rattle.promises.proofs.Fronts.{alike-stop, alike-more, alike-done}
use Rattle.promises.proofs.same_front.Goals as goal

pub returns-then-not-same_field : goal.returns-then-not-same_field
returns-then-not-same_field c =
    alike-stop _ _ (omega arith) _ _ (omega arith) _ c.loop-i.invariant (omega (arith, c.min-end.ensures))
    (sym c.same_field.ensures ∙ c.if-not-same_field.true)

pub loop-i-preserved : goal.loop-i-preserved
loop-i-preserved c =
    alike-more _ _ (omega arith) _ _ (omega arith) _ c.loop-i.invariant (omega (arith, c.min-end.ensures))
    (sym c.same_field.ensures ∙ c.if-not-same_field.false)

pub returns : goal.returns
returns c =
    let e : c.min-end.result ≡ c.loop-i.i = omega (arith, c.min-end.ensures, c.loop-i.invariant.within) in
    e ∙ alike-done _ _ (omega arith) _ _ (omega arith) _ c.loop-i.invariant (omega (arith, c.min-end.ensures))
