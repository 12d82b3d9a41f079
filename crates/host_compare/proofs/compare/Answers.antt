-- Each way out is one law of the definition; what was tested on the way is its premise.
use mathlib.Core.Path.{sym, ◌∙◌}
use borrow.Author.Tests.{eqb-true}
use Rattle.host.proofs.Guards.{fit}
use Rattle.host_compare.proofs.Calls.{unwritten, first-cut, second-cut, served}
use Rattle.host_compare.proofs.compare.Goals as goal

pub returns-then-not-reply_fits : goal.returns-then-not-reply_fits
returns-then-not-reply_fits c = rw c.number.ensures (unwritten _ _ _ _ _ _ _ _ _ (sym c.reply_fits.ensures ∙ c.if-not-reply_fits.true))

pub returns-then-not-slots_fit : goal.returns-then-not-slots_fit
returns-then-not-slots_fit c =
    first-cut _ _ _ _ _ _ _ _ _ (eqb-true _ _ (sym c.reply_fits.ensures ∙ c.if-not-reply_fits.false))
    (sym c.slots_fit.ensures ∙ c.if-not-slots_fit.true) c.refused.ensures c.reply_with.ensures

pub returns-then-not-slots_fit-2 : goal.returns-then-not-slots_fit-2
returns-then-not-slots_fit-2 c =
    second-cut _ _ _ _ _ _ _ _ _ (eqb-true _ _ (sym c.reply_fits.ensures ∙ c.if-not-reply_fits.false))
    (fit _ (sym c.slots_fit.ensures ∙ c.if-not-slots_fit.false)) (sym c.slots_fit-2.ensures ∙ c.if-not-slots_fit-2.true) c.refuse_second.ensures

pub returns-then-few-3 : goal.returns-then-few-3
returns-then-few-3 c =
    served _ _ _ _ _ _ _ _ _ (eqb-true _ _ (sym c.reply_fits.ensures ∙ c.if-not-reply_fits.false))
    (fit _ (sym c.slots_fit.ensures ∙ c.if-not-slots_fit.false)) (fit _ (sym c.slots_fit-2.ensures ∙ c.if-not-slots_fit-2.false)) c.compare_in.ensures

pub returns-else-few-3 : goal.returns-else-few-3
returns-else-few-3 c =
    served _ _ _ _ _ _ _ _ _ (eqb-true _ _ (sym c.reply_fits.ensures ∙ c.if-not-reply_fits.false))
    (fit _ (sym c.slots_fit.ensures ∙ c.if-not-slots_fit.false)) (fit _ (sym c.slots_fit-2.ensures ∙ c.if-not-slots_fit-2.false)) c.compare_in-else-few-3.ensures
