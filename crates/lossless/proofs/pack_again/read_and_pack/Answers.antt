-- The effect is that of the two calls one after the other, and M-107 follows from it by the theorem.
use mathlib.Core.Path.{ap}
use Rattle.record.specs.Reading.{left_of}
use Rattle.lossless.proofs.pack_again.Calls.{then-refused, then-packed, promised}
use Rattle.lossless.proofs.pack_again.read_and_pack.Goals as goal

pub returns-then-r-ne0 : goal.returns-then-r-ne0
returns-then-r-ne0 c =
    promised _ _ (then-refused _ _ _ _ (ap left_of c.read-r.ensures) c.if-r-ne0.true)

pub returns : goal.returns
returns c =
    promised _ _
    (then-packed _ _ _ _ (ap left_of c.read-r.ensures) c.if-r-ne0.false _ _ c.pack.ensures)
