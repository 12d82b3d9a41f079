-- Each way out is one law of the definition, by the numbers that the first pass answers.
use Rattle.std.proofs.Common.{arith, ap, ◌<◌, length}
use Rattle.sheet.specs.Sheet.{header_size, width_of, width_in}
use Rattle.rescue.proofs.fill.Runs.{all-clearable, nothing-done, no_room, has_room, rest-clearable, all_done}
use Rattle.rescue.proofs.fill.rescue_entries.Goals as goal

pub clear-requires : goal.clear-requires
clear-requires c = all-clearable c.requires.0

pub returns-then-sheet-header : goal.returns-then-sheet-header
returns-then-sheet-header c =
    let short : length c.args.sheet.now < header_size (width_in c.args.sheet.now) = omega (arith, c.if-sheet-header.true, c.header.ensures.0, ap (λ n. header_size (width_of n)) c.requires.1) in
    nothing-done c.requires.0 short c.clear.ensures c.saved.ensures

pub returns-then-area-mark : goal.returns-then-area-mark
returns-then-area-mark c =
    rw c.refused.ensures (no_room c.requires.0 c.args.v c.requires.1 c.measure-x.ensures c.if-area-mark.true)

pub fill-requires-clause-room : goal.fill-requires-clause-room
fill-requires-clause-room c = has_room c.requires.0 c.args.v c.requires.1 c.measure-x.ensures c.if-area-mark.false

pub clear-requires-2 : goal.clear-requires-2
clear-requires-2 c = rest-clearable c.requires.0 c.args.v c.requires.1 c.measure-x.ensures c.if-area-mark.false c.fill.ensures

pub returns : goal.returns
returns c =
    all_done c.requires.0 c.args.v c.requires.1 c.measure-x.ensures c.if-area-mark.false c.fill.ensures (omega (arith, c.header.ensures.0)) c.clear-2.ensures c.saved-2.ensures
