-- The bytes that the call stores are the value's.
use Rattle.reading.proofs.value.Loads.{integers-asked, loaded-integers}
use Rattle.reading.proofs.value.integers.Goals as goal

pub load-requires : goal.load-requires
load-requires c =
    let (inside, room) = integers-asked _ _ _ c.requires.inside.1 c.requires.room c.requires.form in
    ((inside.form.0, inside.form.1, c.requires.whole), room, inside.within)

pub returns : goal.returns
returns c =
    let inside = (integers-asked _ _ _ c.requires.inside.1 c.requires.room c.requires.form).0 in
    rw (c.requires.form, c.numbers.ensures) (loaded-integers _ inside c.integer_kind.ensures c.load.ensures)
