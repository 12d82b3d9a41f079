-- Of the reals that become singles those up to the count are looked at.
use mathlib.Core.Path.{◌∙◌}
use Rattle.pack_check.proofs.arguments.ArgumentLaws.{reals-part}
use Rattle.pack_check.proofs.arguments.singles_fit.Goals as goal

pub returns-else-not-single : goal.returns-else-not-single
returns-else-not-single c = λ big.
    c.no_nan.ensures ∙ rw (c.if-not-single.false, c.min.ensures) (reals-part _ big _ c.args.a c.requires.0)
