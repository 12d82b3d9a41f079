-- Each way out is one law of the definition; what was tested on the way is its premise.
use Prim.Native.Nat.{◌/◌}
use mathlib.Core.Path.{sym, ◌∙◌}
use Rattle.record.proofs.Sizes.{sized}
use lib.ListN.{length}
use Rattle.host.specs.Numbers.{number_size}
use Rattle.host.proofs.Guards.{fit}
use Rattle.host_plans.proofs.Calls.{pack-unwritten, pack-refused, pack-unfit, pack-served}
use Rattle.host_plans.proofs.pack.Goals as goal

pub returns-then-not-reply_fits : goal.returns-then-not-reply_fits
returns-then-not-reply_fits c = rw c.number.ensures (pack-unwritten _ _ _ _ _ (sym c.reply_fits.ensures ∙ c.if-not-reply_fits.true))

pub returns-then-not-slots_fit : goal.returns-then-not-slots_fit
returns-then-not-slots_fit c =
    pack-refused _ _ _ _ _ (sym c.reply_fits.ensures ∙ c.if-not-reply_fits.false) (sym c.slots_fit.ensures ∙ c.if-not-slots_fit.true) c.refused.ensures
    c.reply_with.ensures

pub returns-then-not-lengths_fit : goal.returns-then-not-lengths_fit
returns-then-not-lengths_fit c =
    pack-unfit _ _ _ _ _ (sym c.reply_fits.ensures ∙ c.if-not-reply_fits.false) (fit _ (sym c.slots_fit.ensures ∙ c.if-not-slots_fit.false))
    (sym c.lengths_fit.ensures ∙ c.if-not-lengths_fit.true) c.refused-then-not-lengths_fit.ensures c.reply_with-then-not-lengths_fit.ensures

pub judge-requires : goal.judge-requires
judge-requires c = (sized {slots = length c.args.slots.now / number_size} {area = length c.args.area.now} (sym c.lengths_fit.ensures ∙ c.if-not-lengths_fit.false)).text

pub packed-a-requires : goal.packed-a-requires
packed-a-requires c =
    record {
      whole = (fit _ (sym c.slots_fit.ensures ∙ c.if-not-slots_fit.false)).whole;
      fine = sym c.lengths_fit.ensures ∙ c.if-not-lengths_fit.false;
      parsed = c.judge.ensures;
    }

pub returns : goal.returns
returns c =
    pack-served _ _ _ _ _ (sym c.reply_fits.ensures ∙ c.if-not-reply_fits.false) (fit _ (sym c.slots_fit.ensures ∙ c.if-not-slots_fit.false)) c.packed-a.ensures
    c.reply_with-2.ensures
