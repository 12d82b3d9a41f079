-- The sum of the bounds is the bound of the fields.
use mathlib.Core.Path.{◌≡◌, ◌∙◌}
use borrow.Author.Rules.{rules}
use Rattle.std.specs.List.{sum_by}
use Rattle.layout.specs.Codes.{field_of}
use Rattle.reading.specs.inside.Bounds.{field_bound}
use Rattle.reading.proofs.measure.Bounds.{sum-bound}
use Rattle.reading.proofs.measure.value_bound.Goals as goal

pub returns : goal.returns
returns c =
    let sum : c.sum.result ≡ sum_by (λ w. field_bound c.args.bytes (field_of w).role (field_of w).count) c.args.codes.now = search rules in
    sum ∙ sum-bound _ _
