-- Each way out is one law of the definition; what was tested on the way is its premise.
use mathlib.Core.Path.{sym, ◌∙◌}
use Rattle.host.proofs.Guards.{fit}
use Rattle.host_record.proofs.read.Calls.{read-unwritten, read-refused, read-served}
use Rattle.host_record.proofs.read.read.Goals as goal

pub returns-then-not-long_reply_fits : goal.returns-then-not-long_reply_fits
returns-then-not-long_reply_fits c = rw c.number.ensures (read-unwritten _ _ _ _ _ _ (sym c.long_reply_fits.ensures ∙ c.if-not-long_reply_fits.true))

pub returns-then-not-slots_fit : goal.returns-then-not-slots_fit
returns-then-not-slots_fit c =
    read-refused _ _ _ _ _ _ (sym c.long_reply_fits.ensures ∙ c.if-not-long_reply_fits.false) (sym c.slots_fit.ensures ∙ c.if-not-slots_fit.true) c.refused.ensures
    c.reply_long.ensures

pub returns-then-few : goal.returns-then-few
returns-then-few c =
    read-served _ _ _ _ _ _ (sym c.long_reply_fits.ensures ∙ c.if-not-long_reply_fits.false) (fit _ (sym c.slots_fit.ensures ∙ c.if-not-slots_fit.false)) c.read_in.ensures

pub returns : goal.returns
returns c =
    read-served _ _ _ _ _ _ (sym c.long_reply_fits.ensures ∙ c.if-not-long_reply_fits.false) (fit _ (sym c.slots_fit.ensures ∙ c.if-not-slots_fit.false))
    c.read_in-2.ensures
