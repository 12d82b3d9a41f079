-- Each way out is one law of the definition, by the numbers that the first pass answers.
use Rattle.sheet_read.proofs.Runs.{bounds, has-header, all_found, end-wrong, needless, few-slots, no_room, has_room, all-put}
use Rattle.sheet_read.proofs.read_entries.Goals as goal

pub measure-x-requires : goal.measure-x-requires
measure-x-requires c = (has-header c.requires, (bounds c.requires).lengths.size)

pub returns-then-x-sheet : goal.returns-then-x-sheet
returns-then-x-sheet c = rw c.refused.ensures (end-wrong c.requires c.measure-x.ensures c.if-x-sheet.true)

pub returns-then-not-needs : goal.returns-then-not-needs
returns-then-not-needs c =
    rw c.refused-then-not-needs.ensures (needless c.requires c.measure-x.ensures c.if-x-sheet.false c.needs.ensures c.if-not-needs.true)

pub returns-then-slots-x : goal.returns-then-slots-x
returns-then-slots-x c =
    rw c.refused-then-slots-x.ensures (few-slots c.requires c.measure-x.ensures c.if-x-sheet.false c.needs.ensures c.if-not-needs.false c.if-slots-x.true)

pub returns-then-area-mark : goal.returns-then-area-mark
returns-then-area-mark c =
    rw c.refused-then-area-mark.ensures (no_room c.requires c.measure-x.ensures c.if-x-sheet.false c.needs.ensures c.if-not-needs.false c.if-slots-x.false c.if-area-mark.true)

pub fill-requires : goal.fill-requires
fill-requires c =
    let o = c.requires in record {
      entries = (has-header o, all_found o c.measure-x.ensures);
      room = has_room o c.measure-x.ensures c.if-x-sheet.false c.needs.ensures c.if-not-needs.false c.if-slots-x.false c.if-area-mark.false;
    }

pub returns : goal.returns
returns c =
    all-put c.requires c.measure-x.ensures c.if-x-sheet.false c.needs.ensures c.if-not-needs.false c.if-slots-x.false c.if-area-mark.false c.fill.ensures
