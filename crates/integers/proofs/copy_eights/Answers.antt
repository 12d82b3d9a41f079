-- Runs that are not turned round are one run of bytes.
use mathlib.Core.Path.{ap, ◌∙◌}
use Rattle.record.specs.Bytes.{store_at}
use Rattle.integers.proofs.IntegerLaws.{eights-kept}
use Rattle.integers.proofs.copy_eights.Goals as goal

pub returns-then-turn : goal.returns-then-turn
returns-then-turn c = rw c.if-turn.true c.turn_each.ensures

pub returns : goal.returns
returns c =
    let a = c.args in
    rw c.if-turn.false (c.copy.ensures ∙ ap (store_at a.out.now a.at) (eights-kept a.from.now a.start a.n c.requires.1))
