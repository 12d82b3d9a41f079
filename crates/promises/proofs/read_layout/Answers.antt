-- A text that is too long is refused with 1; any other is read by `parse`.
use Rattle.promises.proofs.Calls.{read-long, read_short}
use Rattle.promises.proofs.read_layout.Goals as goal

pub returns-then-text-gt-MAX_LAYOUT : goal.returns-then-text-gt-MAX_LAYOUT
returns-then-text-gt-MAX_LAYOUT c = rw c.at.ensures (read-long _ c.if-text-gt-MAX_LAYOUT.true)

pub returns : goal.returns
returns c = read_short _ _ _ c.if-text-gt-MAX_LAYOUT.false c.parse.ensures
