-- The definition's steps; more than 54 bits taken off are as good as 54.
use native.Mathlib.Omega.{arith}
use mathlib.Core.Path.{◌∙◌}
use Rattle.real.proofs.NarrowLaws.{narrow-steps}
use Rattle.real.proofs.narrow_body.Goals as goal

pub returns : goal.returns
returns c =
    c.min.ensures ∙ narrow-steps c.args.p c.saturating_sub-i.result _ _ _ c.saturating_sub-i.ensures (omega arith) c.rounded-r.ensures.0 c.saturating_sub-2.ensures
