-- Each way out is one law of the definition; what was tested on the way is its premise.
use mathlib.Core.Path.{sym, ◌∙◌}
use Rattle.host_plans.proofs.Calls.{prepare-unwritten, prepare-replied}
use Rattle.host_plans.proofs.prepare.Goals as goal

pub returns-then-not-reply_fits : goal.returns-then-not-reply_fits
returns-then-not-reply_fits c = rw c.number.ensures (prepare-unwritten _ _ _ (sym c.reply_fits.ensures ∙ c.if-not-reply_fits.true))

pub returns : goal.returns
returns c = prepare-replied _ _ _ (sym c.reply_fits.ensures ∙ c.if-not-reply_fits.false) c.prepare-a.ensures c.reply_with.ensures
