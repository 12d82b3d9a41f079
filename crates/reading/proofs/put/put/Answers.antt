-- The value is loaded, and the slot's numbers are those of what was loaded.
use Rattle.reading.proofs.put.PutLaws.{put_as}
use Rattle.reading.proofs.put.put.Goals as goal

pub returns : goal.returns
returns c =
    put_as c.load-loaded.ensures c.set_slot.ensures
