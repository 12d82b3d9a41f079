-- Infinity and NaN, zero, and all others: the cases of the definition.
use native.Mathlib.Omega.{arith}
use mathlib.Core.Path.{◌∙◌, sym}
use Rattle.real.proofs.WidenLaws.{other-body, zero-body, normal-body}
use Rattle.real.proofs.widen_body.Goals as goal

pub returns-then-p-ge2139095040 : goal.returns-then-p-ge2139095040
returns-then-p-ge2139095040 c = sym (other-body _ c.if-p-ge2139095040.true)

pub returns-then-p-eq0 : goal.returns-then-p-eq0
returns-then-p-eq0 c = zero-body _ c.if-p-eq0.true

pub returns : goal.returns
returns c =
    c.normal.ensures ∙ normal-body c.args.p c.saturating_sub-i.result (omega arith) c.if-p-ge2139095040.false c.saturating_sub-i.ensures
