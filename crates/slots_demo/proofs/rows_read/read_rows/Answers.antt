-- The slots that were lent and those that were not, one after the other, are what the reading over a part leaves.
use Rattle.slots_demo.proofs.rows_read.Parts.{read-part}
use Rattle.slots_demo.proofs.rows_read.read_rows.Goals as goal

pub returns : goal.returns
returns c = read-part _ _ _ _ _ _ _ _ _ c.read_slots-answer.ensures
