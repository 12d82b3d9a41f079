-- The pattern of a mean, by its cases.
use Rattle.std.proofs.Common.{rules, None, Some}
use Rattle.host_mean.specs.Calls.{pattern}
use Rattle.host_mean.proofs.pattern.Goals as goal

pub returns : goal.returns
unfolding pattern
returns c = elim c.args.m [ None ↦ search rules | Some x ↦ search rules ]
