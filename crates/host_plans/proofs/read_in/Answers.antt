-- The call on numbers reads over slots of any content; what it answered is written back.
use mathlib.Core.Path.{sym, ◌∙◌}
use borrow.Author.Rules.{rules}
use Rattle.record.proofs.Bytes.{all-below}
use Rattle.reader.proofs.passes.Calls.{sure-room, sure-put}
use Rattle.host_plans.proofs.Calls.{set_room, read-replied, room-ready, room-read}
use Rattle.host_plans.proofs.read_in.Goals as goal

pub fill-r-requires-clause-table_room : goal.fill-r-requires-clause-table_room
fill-r-requires-clause-table_room g c = sure-room (room-ready c.requires.0 _ (search rules)) (sym c.surely_fits.ensures ∙ c.if-surely_fits.true)

pub read_back-requires : goal.read_back-requires
read_back-requires g c = (
  c.requires.0.sized,
  search rules,
  set_room _ _ _ _ _ (room-read c.requires.0 _ (search rules)
      (sure-put (room-ready c.requires.0 _ (search rules)) (sym c.surely_fits.ensures ∙ c.if-surely_fits.true) c.fill-r.ensures)) (search rules),
)

pub returns-then-surely_fits : goal.returns-then-surely_fits
returns-then-surely_fits g c =
    read-replied _ _ c.args.slots.now _ _ _ (search rules) (room-read c.requires.0 _ (search rules)
    (sure-put (room-ready c.requires.0 _ (search rules)) (sym c.surely_fits.ensures ∙ c.if-surely_fits.true) c.fill-r.ensures)) c.read_back.ensures
    (all-below c.args.slots.now (search rules))

pub read-r-requires : goal.read-r-requires
read-r-requires g c = room-ready c.requires.0 _ (search rules)

pub read_back-requires-2 : goal.read_back-requires-2
read_back-requires-2 g c = (c.requires.0.sized, search rules, set_room _ _ _ _ _ (room-read c.requires.0 _ (search rules) c.read-r.ensures) (search rules))

pub returns : goal.returns
returns g c =
    read-replied _ _ c.args.slots.now _ _ _ (search rules) (room-read c.requires.0 _ (search rules) c.read-r.ensures) c.read_back-2.ensures
    (all-below c.args.slots.now (search rules))
