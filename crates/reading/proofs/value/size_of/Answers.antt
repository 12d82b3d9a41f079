-- Each form's size is a law of its value.
use native.Mathlib.Omega.{arith}
use mathlib.Core.Path.{refl}
use Rattle.layout.proofs.Numbered.{shape-trimmed}
use Rattle.reading.proofs.value.Loads.{inside-as, text-trimmed, size-text, size-numbered, size-as, size-kept}
use Rattle.reading.proofs.value.size_of.Goals as goal

pub returns-in-6-to-4294967295 : goal.returns-in-6-to-4294967295
returns-in-6-to-4294967295 c = size-numbered c.args.found.number (omega arith) c.requires.0 c.requires.1

pub trimmed_len-requires : goal.trimmed_len-requires
trimmed_len-requires c = (inside-as (shape-trimmed _ c.in-1.is) c.requires.1).within

pub returns-in-1 : goal.returns-in-1
returns-in-1 c =
    let e = shape-trimmed _ c.in-1.is in
    size-as e (size-text (inside-as e c.requires.1) (text-trimmed _ _ _ _ _ refl c.trimmed_len.ensures))

pub returns-in_default : goal.returns-in_default
returns-in_default c = size-kept c.args.found.number (omega arith) (λ e. absurd (omega arith)) c.requires.1
