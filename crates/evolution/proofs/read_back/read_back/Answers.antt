-- The effect is that of the two calls one after the other, and demand 3 follows from it by the theorem.
use native.Mathlib.Omega.{arith}
use mathlib.Core.Path.{sym}
use lib.Seq.{length-take-le}
use Rattle.evolution.proofs.read_back.Calls.{record-room, then-refused, then-read, promised}
use Rattle.evolution.proofs.read_back.read_back.Goals as goal

pub returns-then-a-ne0 : goal.returns-then-a-ne0
returns-then-a-ne0 c = promised _ _ (then-refused _ _ _ c.pack-a.ensures c.if-a-ne0.true)

pub slice_bounds-read-end : goal.slice_bounds-read-end
slice_bounds-read-end c =
    let args = c.args in
    omega (arith, c.min-k.ensures, record-room args.written_by.now args.slots.now args.area.now args.out.now _ _ c.pack-a.ensures c.if-a-ne0.false)

pub slice_bounds-read-end-2 : goal.slice_bounds-read-end-2
slice_bounds-read-end-2 c =
    let args = c.args in
    let few = record-room args.written_by.now args.slots.now args.area.now args.out.now _ _ c.pack-a.ensures c.if-a-ne0.false in
    sym (length-take-le _ _ (omega (arith, c.min-k.ensures, few)))

pub returns : goal.returns
returns c =
    promised _ _
    (then-read _ _ _ c.pack-a.ensures c.if-a-ne0.false _ c.min-k.ensures _ _ _ c.read.ensures)
