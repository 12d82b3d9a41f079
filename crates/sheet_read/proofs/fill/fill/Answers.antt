-- What the loop keeps is `Filling`: table and area hold the entries so far.
use Rattle.std.proofs.lemmas.List.{take_rest}
use Rattle.sheet_read.proofs.fill.Filling.{filling-start, filling-done, filling-begins, filling-room, filling-more}
use Rattle.sheet_read.proofs.fill.fill.Goals as goal

pub loop-set-init : goal.loop-set-init
loop-set-init c = rw c.header-at.ensures.0 (filling-start _ _ _ _ _ _ c.requires.entries.0)

pub put-size-requires : goal.put-size-requires
put-size-requires c =
    let p = c.requires in
    let inv = c.loop-set.invariant in
    rw take_rest
    (record { entry = filling-begins p.entries.1 p.room inv c.loop-set-test.true; put_room = filling-room p.entries.1 p.room inv c.loop-set-test.true })

pub loop-set-preserved : goal.loop-set-preserved
loop-set-preserved c =
    let put = c.put-size.ensures in
    rw c.header.ensures.0 (filling-more c.requires.entries.1 c.requires.room c.loop-set.invariant c.loop-set-test.true (rw take_rest at put))

pub returns : goal.returns
returns c =
    filling-done c.requires.entries.1 c.requires.room c.loop-set.invariant c.loop-set-test.false c.accepted.ensures
