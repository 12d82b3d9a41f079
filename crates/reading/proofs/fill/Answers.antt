-- The values so far are a ghost of the invariant: table and area are those lent with these values put in, and the
-- fields that are left complete them.
use mathlib.Core.Path.{ap}
use Rattle.reading.specs.declared.positions.Found.{Found}
use Rattle.reading.proofs.measure.Run.{turn-end, turn-short, turn-moved, turn-inside, turn-found}
use Rattle.reading.proofs.Tables.{written_start, written-moved, written-room, written-more, written-done}
use Rattle.reading.proofs.fill.Goals.{in-Some-found, in_default-found}
use Rattle.reading.proofs.fill.Goals as goal

pub loop-i-init : goal.loop-i-init
loop-i-init c = written_start _ _ _ _ c.new-c.ensures

pub returns-in_default : goal.returns-in_default
returns-in_default c =
    let m = c.loop-i.invariant in
    written-done c.requires.table_room m (turn-short _ m.ran c.loop-i-test.true c.in_default.ensures) c.answer.ensures

pub put-place-requires-clause-inside : goal.put-place-requires-clause-inside
put-place-requires-clause-inside c =
    turn-inside _ c.loop-i.invariant.ran c.loop-i-test.true (rw c.in-Some-found.is at c.in-Some.ensures) c.requires.sizes.1

pub put-place-requires-clause-put_room : goal.put-place-requires-clause-put_room
put-place-requires-clause-put_room c =
    let m = c.loop-i.invariant in
    written-room c.requires.table_room m _ (turn-found _ m.ran c.loop-i-test.true (rw c.in-Some-found.is at c.in-Some.ensures))

pub loop-i-preserved : goal.loop-i-preserved
loop-i-preserved c =
    let m = c.loop-i.invariant in
    let l = c.loop-i-test.true in
    elim c.match-turn.branch [
      | in-Some-found w ↦
          let g = rw w.in-Some-found.is at c.in-Some.ensures in
          rw (w.slots-is, w.area-is, w.set-is, w.place-is)
          (written-more c.requires.table_room m _ (turn-found _ m.ran l g) (ap (λ (f : Found). f.at) g.3) w.put-place.ensures)
      | in_default-found w ↦
          rw (w.slots-is, w.area-is, w.set-is, w.place-is)
          (written-moved c.requires.table_room m (turn-moved _ m.ran l (rw w.in_default-found.is at c.in-Some.ensures)))
    ]

pub returns : goal.returns
returns c =
    let m = c.loop-i.invariant in
    written-done c.requires.table_room m (turn-end _ m.ran c.loop-i-test.false c.loop-i.auto.i-end) c.answer-2.ensures
