-- The values so far are a ghost of the invariant: their bytes are counted, and the fields that are left complete them.
use Rattle.reading.proofs.measure.Run.{turn-end, turn-short, turn-moved, turn-inside, turn-found}
use Rattle.reading.proofs.measure.Measured.{measured-start, measured-moved, measured-more, measured-done}
use Rattle.reading.proofs.measure.measure.Goals.{in-Some-found, in_default-found}
use Rattle.reading.proofs.measure.measure.Goals as goal

pub loop-code-init : goal.loop-code-init
loop-code-init c = measured-start _ c.new-c.ensures

pub returns-in_default : goal.returns-in_default
returns-in_default c =
    let m = c.loop-code.invariant in
    measured-done m (turn-short _ m.ran c.loop-code-test.true c.in_default.ensures)

pub size_of-size-requires : goal.size_of-size-requires
size_of-size-requires c =
    turn-inside _ c.loop-code.invariant.ran c.loop-code-test.true (rw c.in-Some-found.is at c.in-Some.ensures) c.requires.1

pub loop-code-preserved : goal.loop-code-preserved
loop-code-preserved c =
    let m = c.loop-code.invariant in
    let l = c.loop-code-test.true in
    elim c.match-turn.branch [
      | in-Some-found w ↦ let z = w.size_of-size.ensures in rw w.size-is (measured-more m _ (z.size _) z.small (turn-found _ m.ran l (rw w.in-Some-found.is at c.in-Some.ensures)))
      | in_default-found w ↦ rw w.size-is (measured-moved m (turn-moved _ m.ran l (rw w.in_default-found.is at c.in-Some.ensures)))
    ]

pub returns : goal.returns
returns c =
    let m = c.loop-code.invariant in
    measured-done m (turn-end _ m.ran c.loop-code-test.false c.loop-code.auto.code-index-end)
