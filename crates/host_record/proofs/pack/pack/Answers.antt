-- Each way out is one law of the definition; what was tested on the way is its premise.
use mathlib.Core.Path.{sym, ◌∙◌}
use Rattle.host.proofs.Guards.{fit}
use Rattle.host_record.proofs.pack.Calls.{pack-unwritten, pack-refused, pack-served}
use Rattle.host_record.proofs.pack.pack.Goals as goal

pub returns-then-not-reply_fits : goal.returns-then-not-reply_fits
returns-then-not-reply_fits c = rw c.number.ensures (pack-unwritten _ _ _ _ _ (sym c.reply_fits.ensures ∙ c.if-not-reply_fits.true))

pub returns-then-not-slots_fit : goal.returns-then-not-slots_fit
returns-then-not-slots_fit c =
    pack-refused _ _ _ _ _ (sym c.reply_fits.ensures ∙ c.if-not-reply_fits.false) (sym c.slots_fit.ensures ∙ c.if-not-slots_fit.true) c.refused.ensures c.reply_with.ensures

pub returns-then-few : goal.returns-then-few
returns-then-few c =
    pack-served _ _ _ _ _ (sym c.reply_fits.ensures ∙ c.if-not-reply_fits.false) (fit _ (sym c.slots_fit.ensures ∙ c.if-not-slots_fit.false)) c.pack_in-a.ensures
    c.reply_with-then-few.ensures

pub returns : goal.returns
returns c =
    pack-served _ _ _ _ _ (sym c.reply_fits.ensures ∙ c.if-not-reply_fits.false) (fit _ (sym c.slots_fit.ensures ∙ c.if-not-slots_fit.false)) c.pack_in-a-2.ensures
    c.reply_with-2.ensures
