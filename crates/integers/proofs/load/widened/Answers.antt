-- The definition by its cases.
use Rattle.record.specs.Reading.{widened}
use Rattle.integers.proofs.load.LoadedLaws.{sign-goes-on}
use Rattle.integers.proofs.load.widened.Goals as goal

pub returns-then-unsigned : goal.returns-then-unsigned
unfolding widened
returns-then-unsigned c = rw c.if-unsigned.true

pub returns : goal.returns
returns c =
    let a = c.args in
    rw c.if-unsigned.false (sign-goes-on a.w a.x c.requires.0 c.requires.1 c.requires.2)
