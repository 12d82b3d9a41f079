-- The bytes that the call stores are the value's.
use Rattle.reading.proofs.value.Loads.{reals-asked, loaded-reals}
use Rattle.reading.proofs.value.reals.Goals as goal

pub load-requires : goal.load-requires
load-requires c =
    let (inside, room) = reals-asked _ _ _ c.requires.inside.1 c.requires.room c.requires.form in
    (room, inside.within)

pub returns : goal.returns
returns c =
    let inside = (reals-asked _ _ _ c.requires.inside.1 c.requires.room c.requires.form).0 in
    rw (c.requires.form, c.numbers.ensures) (loaded-reals _ inside (c.load.ensures _))
