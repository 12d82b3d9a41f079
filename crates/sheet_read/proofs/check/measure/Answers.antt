-- What the loop keeps is `Measuring`: the entries so far, and those from here on, are all of them.
use Rattle.std.proofs.lemmas.List.{take_rest}
use Rattle.sheet_read.proofs.check.Walks.{measuring-start, measuring-more, measured-full, measured-broken}
use Rattle.sheet_read.proofs.check.measure.Goals as goal

pub loop-entries-init : goal.loop-entries-init
loop-entries-init c = rw c.header-end.ensures.0 (measuring-start _ _ _ c.requires.0)

pub returns-in_default : goal.returns-in_default
returns-in_default c = let e = c.in_default.ensures in measured-broken c.loop-entries.invariant (rw take_rest at e)

pub loop-entries-preserved : goal.loop-entries-preserved
loop-entries-preserved c =
    let e = c.in-Some.ensures in
    rw c.header.ensures.0 (measuring-more c.loop-entries.invariant c.loop-entries-test.true (rw take_rest at e.0) _ (rw take_rest at e.1))

pub returns : goal.returns
returns c = measured-full c.loop-entries.invariant c.loop-entries-test.false
