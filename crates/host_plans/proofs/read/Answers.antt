-- Each way out is one law of the definition; what was tested on the way is its premise.
use Prim.Native.Nat.{◌/◌}
use mathlib.Core.Path.{sym, ◌∙◌}
use borrow.Author.Rules.{rules}
use Rattle.reader.proofs.checking.Calls.{fit as lent}
use lib.ListN.{length}
use Rattle.host.specs.Numbers.{number_size}
use Rattle.host.proofs.Guards.{fit}
use Rattle.host_plans.proofs.Calls.{read-unwritten, read-refused, read-unfit, read-served}
use Rattle.host_plans.proofs.read.Goals as goal

pub returns-then-not-long_reply_fits : goal.returns-then-not-long_reply_fits
returns-then-not-long_reply_fits c = rw c.number.ensures (read-unwritten _ _ _ _ _ _ (sym c.long_reply_fits.ensures ∙ c.if-not-long_reply_fits.true))

pub returns-then-not-slots_fit : goal.returns-then-not-slots_fit
returns-then-not-slots_fit c =
    read-refused _ _ _ _ _ _ (sym c.long_reply_fits.ensures ∙ c.if-not-long_reply_fits.false) (sym c.slots_fit.ensures ∙ c.if-not-slots_fit.true) c.refused.ensures
    c.reply_long.ensures

pub returns-then-not-sizes_fit : goal.returns-then-not-sizes_fit
returns-then-not-sizes_fit c =
    read-unfit _ _ _ _ _ _ (sym c.long_reply_fits.ensures ∙ c.if-not-long_reply_fits.false) (fit _ (sym c.slots_fit.ensures ∙ c.if-not-slots_fit.false))
    (sym c.sizes_fit.ensures ∙ c.if-not-sizes_fit.true) c.refused-then-not-sizes_fit.ensures c.reply_long-then-not-sizes_fit.ensures

pub judge-requires : goal.judge-requires
judge-requires c = (lent {slots = length c.args.slots.now / number_size} {area = length c.args.area.now} {mark = c.args.mark} (sym c.sizes_fit.ensures ∙ c.if-not-sizes_fit.false)).text

pub read_judged-requires : goal.read_judged-requires
read_judged-requires c =
    record {
      sized = search rules;
      whole = (fit _ (sym c.slots_fit.ensures ∙ c.if-not-slots_fit.false)).whole;
      fine = sym c.sizes_fit.ensures ∙ c.if-not-sizes_fit.false;
      parsed = c.judge.ensures;
    }

pub returns : goal.returns
returns c =
    read-served _ _ _ _ _ _ (sym c.long_reply_fits.ensures ∙ c.if-not-long_reply_fits.false) (fit _ (sym c.slots_fit.ensures ∙ c.if-not-slots_fit.false))
    c.read_judged.ensures
