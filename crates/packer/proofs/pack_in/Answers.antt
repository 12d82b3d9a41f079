-- What is read is what the definition reads, and the rest is that of a packing by fields.
use mathlib.Core.Path.{sym, ◌∙◌}
use Rattle.packer.proofs.WholeLaws.{layout-sizes, layout-read, layout-packed}
use Rattle.packer.proofs.pack_in.Goals as goal

pub returns-then-not-lengths_fit : goal.returns-then-not-lengths_fit
returns-then-not-lengths_fit g c =
    rw c.refused.ensures (layout-sizes _ _ _ _ (sym c.lengths_fit.ensures ∙ c.if-not-lengths_fit.true))

pub packed-requires : goal.packed-requires
packed-requires g c =
    (_, _, layout-read _ _ _ _ (sym c.lengths_fit.ensures ∙ c.if-not-lengths_fit.false) c.parse-p.ensures)

pub returns : goal.returns
returns g c =
    layout-packed _ _ _ _ (sym c.lengths_fit.ensures ∙ c.if-not-lengths_fit.false) c.parse-p.ensures c.packed.ensures
