-- The move is the cursor's own; what takes a slot leaves it where it is.
use Rattle.reading.specs.inside.positions.{moved_by}
use Rattle.reading.proofs.positions.moved_by.Goals as goal

pub returns-in_default : goal.returns-in_default
unfolding moved_by
returns-in_default c = rw (← c.field_of-field.ensures.same, c.in_default.is)

pub returns-in-Skip : goal.returns-in-Skip
unfolding moved_by
returns-in-Skip c = rw (← c.field_of-field.ensures.same, c.in-Move.is, c.in-Skip.is) c.skip.ensures

pub returns-in-Back : goal.returns-in-Back
unfolding moved_by
returns-in-Back c = rw (← c.field_of-field.ensures.same, c.in-Move.is, c.in-Back.is) c.back.ensures

pub returns-in-Goto : goal.returns-in-Goto
unfolding moved_by
returns-in-Goto c = rw (← c.field_of-field.ensures.same, c.in-Move.is, c.in-Goto.is) c.seek.ensures
