-- The call on numbers reads over slots of any content; what it answered is written back.
use borrow.Author.Rules.{rules}
use Rattle.record.proofs.Bytes.{all-below}
use Rattle.host_record.proofs.read.Calls.{set_room, read-replied}
use Rattle.host_record.proofs.read.read_in.Goals as goal

pub read_back-requires : goal.read_back-requires
read_back-requires g c = (search rules, search rules, set_room _ _ _ _ _ c.read_short-r.ensures (search rules))

pub returns-then-this-ne0 : goal.returns-then-this-ne0
returns-then-this-ne0 g c =
    read-replied _ _ c.args.slots.now _ _ _ (search rules) c.read_short-r.ensures c.read_back.ensures (all-below c.args.slots.now (search rules))

pub read_back-requires-2 : goal.read_back-requires-2
read_back-requires-2 g c = (search rules, search rules, set_room _ _ _ _ _ c.read-r.ensures (search rules))

pub returns : goal.returns
returns g c =
    read-replied _ _ c.args.slots.now _ _ _ (search rules) c.read-r.ensures c.read_back-2.ensures (all-below c.args.slots.now (search rules))
