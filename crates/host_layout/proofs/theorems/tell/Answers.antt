-- A reply of another size is left; else it is written, and the number is the first of the four.
use mathlib.Core.Path.{refl, sym, ◌∙◌}
use Rattle.host_layout.proofs.theorems.Calls.{unwritten, replied}
use Rattle.host_layout.proofs.theorems.tell.Goals as goal

pub returns-then-not-long_reply_fits : goal.returns-then-not-long_reply_fits
returns-then-not-long_reply_fits c = rw c.number.ensures (unwritten _ _ (sym c.long_reply_fits.ensures ∙ c.if-not-long_reply_fits.true))

pub returns : goal.returns
returns c =
    let sized = sym c.long_reply_fits.ensures ∙ c.if-not-long_reply_fits.false in
    replied _ _ sized refl c.reply_long.ensures
