-- The text goes from the block into the buffer as it is.
use native.Mathlib.Omega.{arith}
use mathlib.Core.Path.{ap}
use Prim.Native.Nat.{◌≤◌, ◌<◌, min}
use Rattle.layout.specs.Layout.{max_layout}
use lib.ListN.{length}
use borrow.Author.Rules.{rules}
use Rattle.perl.specs.inside.Readers.{held}
use Rattle.perl.proofs.Whole.{call-size, stray-small, call-stray, call-room, size-small, call-done}
use Rattle.perl.proofs.from_perl.Goals as goal
use Rattle.perl.proofs.from_perl.Goals.{in_default-via-in-Some+else-size-layout, in_default-via-in_default}

pub returns-then-template-gt-MAX_LAYOUT : goal.returns-then-template-gt-MAX_LAYOUT
returns-then-template-gt-MAX_LAYOUT c = rw c.refused.ensures (call-size _ _ c.if-template-gt-MAX_LAYOUT.true)

pub overflow_cast-p : goal.overflow_cast-p
overflow_cast-p c =
    let p = stray-small c.args.template.now c.args.layout.now c.if-template-gt-MAX_LAYOUT.false _ _ _ c.sequence.ensures _ c.in-Err.is in
    record { fits = omega (arith, p) }

pub returns-in-Err : goal.returns-in-Err
returns-in-Err c =
    rw c.refused-in-Err.ensures (call-stray c.args.template.now c.args.layout.now c.if-template-gt-MAX_LAYOUT.false _ _ _ c.sequence.ensures _ c.in-Err.is)

pub slice_bounds-block-end : goal.slice_bounds-block-end
slice_bounds-block-end c =
    let n : c.in-Some.size ≤ length c.sequence.new.out = omega (
      arith,
      c.sequence.ensures.long,
      size-small c.args.template.now c.args.layout.now c.if-template-gt-MAX_LAYOUT.false _ _ _ c.sequence.ensures _ c.in-Ok.is _ c.in-Some.is,
    ) in
    search rules

pub slice_bounds-copy_from_slice-end-in-Some-2 : goal.slice_bounds-copy_from_slice-end-in-Some-2
slice_bounds-copy_from_slice-end-in-Some-2 c =
    let n : c.in-Some.size ≤ length c.sequence.new.out = omega (
      arith,
      c.sequence.ensures.long,
      size-small c.args.template.now c.args.layout.now c.if-template-gt-MAX_LAYOUT.false _ _ _ c.sequence.ensures _ c.in-Ok.is _ c.in-Some.is,
    ) in
    search rules

pub copy_from_slice-requires : goal.copy_from_slice-requires
copy_from_slice-requires c =
    let n : c.in-Some.size ≤ length c.sequence.new.out = omega (
      arith,
      c.sequence.ensures.long,
      size-small c.args.template.now c.args.layout.now c.if-template-gt-MAX_LAYOUT.false _ _ _ c.sequence.ensures _ c.in-Ok.is _ c.in-Some.is,
    ) in
    search rules

pub returns-in-Some : goal.returns-in-Some
returns-in-Some c =
    rw c.accepted.ensures (call-done c.args.template.now c.args.layout.now c.if-template-gt-MAX_LAYOUT.false _ _ _ c.sequence.ensures _ c.in-Ok.is _ c.in-Some.is
    c.if-size-layout.true c.copy_from_slice.ensures.after)

pub returns-in_default : goal.returns-in_default
returns-in_default c =
    let room : min max_layout (length c.args.layout.now) < held c.in-Ok.span.end = elim c.in_default.branch [
      | in_default-via-in-Some+else-size-layout w ↦ omega (arith, ap held w.in-Some.is)
      | in_default-via-in_default w ↦ omega (arith, ap held w.in_default.is)
    ] in
    rw c.refused-in_default.ensures (call-room c.args.template.now c.args.layout.now c.if-template-gt-MAX_LAYOUT.false _ _ _ c.sequence.ensures _ c.in-Ok.is room)
