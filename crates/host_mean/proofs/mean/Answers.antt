-- Each way out is one law of the definition; what was tested on the way is its premise.
use Rattle.std.proofs.Common.{sym, ◌∙◌}
use Rattle.host.proofs.Guards.{fit}
use Rattle.host_mean.proofs.Calls.{mean-unwritten, mean-refused, mean-served}
use Rattle.host_mean.proofs.mean.Goals as goal

pub returns-then-not-reply_fits : goal.returns-then-not-reply_fits
returns-then-not-reply_fits c = rw c.number.ensures (mean-unwritten _ _ _ (sym c.reply_fits.ensures ∙ c.if-not-reply_fits.true))

pub returns-then-not-slots_fit : goal.returns-then-not-slots_fit
returns-then-not-slots_fit c =
    mean-refused _ _ _ (sym c.reply_fits.ensures ∙ c.if-not-reply_fits.false) (sym c.slots_fit.ensures ∙ c.if-not-slots_fit.true) c.refused.ensures c.reply_with.ensures

pub returns : goal.returns
returns c =
    c.mean_by.ensures ∙ mean-served _ _ _ (sym c.reply_fits.ensures ∙ c.if-not-reply_fits.false) (fit _ (sym c.slots_fit.ensures ∙ c.if-not-slots_fit.false))
