-- Each way out is one law of the definition; what was tested on the way is its premise.
use Rattle.std.proofs.Common.{sym, ◌∙◌}
use Rattle.host.proofs.Guards.{fit}
use Rattle.host_sheet.proofs.damaged.Calls.{rescue-unwritten, rescue-refused, rescue-served}
use Rattle.host_sheet.proofs.damaged.rescue.Goals as goal

pub returns-then-not-long_reply_fits : goal.returns-then-not-long_reply_fits
returns-then-not-long_reply_fits c = rw c.number.ensures (rescue-unwritten _ _ _ _ _ _ (sym c.long_reply_fits.ensures ∙ c.if-not-long_reply_fits.true))

pub returns-then-not-slots_fit : goal.returns-then-not-slots_fit
returns-then-not-slots_fit c =
    rescue-refused _ _ _ _ _ _ (sym c.long_reply_fits.ensures ∙ c.if-not-long_reply_fits.false) (sym c.slots_fit.ensures ∙ c.if-not-slots_fit.true) c.refused.ensures c.reply_with.ensures

pub returns : goal.returns
returns c =
    c.rescue_by.ensures
    ∙ rescue-served _ _ _ _ _ _ (sym c.long_reply_fits.ensures ∙ c.if-not-long_reply_fits.false) (fit _ (sym c.slots_fit.ensures ∙ c.if-not-slots_fit.false))
