-- Each way out is one law of the definition; what was tested on the way is its premise.
use mathlib.Core.Path.{sym, ◌∙◌}
use Rattle.host_layout.proofs.layouts.Calls.{unwritten, replied}
use Rattle.host_layout.proofs.layouts.describe.Goals as goal

pub returns-then-not-reply_fits : goal.returns-then-not-reply_fits
returns-then-not-reply_fits c = rw c.number.ensures (unwritten _ _ (sym c.reply_fits.ensures ∙ c.if-not-reply_fits.true))

pub returns : goal.returns
returns c =
    let sized = sym c.reply_fits.ensures ∙ c.if-not-reply_fits.false in
    replied _ _ sized c.describe.ensures c.reply_with.ensures
