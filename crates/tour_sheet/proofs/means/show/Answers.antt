-- The mean of every table is no NaN.
use Rattle.std.proofs.Common.{sym, ap, subst, ◌∙◌}
use Rattle.mean.specs.Claims.{Numeric}
use Rattle.mean.proofs.marks.Theorems.{mean-numeric}
use Rattle.tour_sheet.proofs.means.show.Goals as goal

pub float_to_bits-x : goal.float_to_bits-x
float_to_bits-x g c = subst Numeric (sym (ap (λ m. m.mean) c.mean-mean.ensures) ∙ c.in-Some.is) (mean-numeric _ _)
