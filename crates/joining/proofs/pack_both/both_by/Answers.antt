-- The first packing goes into the room and the second into the buffer, so a refusal changes nothing; then the first
-- result is copied in front.
use Prim.Native.Nat.{◌≤◌}
use native.Mathlib.Omega.{arith}
use mathlib.Core.Path.{◌≡◌, sym}
use lib.ListN.{length}
use lib.Seq.{length-take-le}
use Rattle.joining.specs.Calls.{pair_of}
use Rattle.joining.proofs.pack_both.Calls.{first-refused, first_fits, left-holds, second-refused, last-holds, sum-small, both-packed}
use Rattle.joining.proofs.pack_both.both_by.Goals as goal

pub returns-then-a-ne0 : goal.returns-then-a-ne0
returns-then-a-ne0 c =
    let a = c.args in
    let lent = pair_of a.first.now a.first_slots.now a.second.now a.second_slots.now a.area.now a.out.now in
    first-refused lent _ c.requires _ _ c.pack-a.ensures c.if-a-ne0.true

pub slice_bounds-pack-count : goal.slice_bounds-pack-count
slice_bounds-pack-count c =
    let a = c.args in
    let lent = pair_of a.first.now a.first_slots.now a.second.now a.second_slots.now a.area.now a.out.now in
    let inside : c.pack-a.result.number ≡ 0 → c.pack-a.result.first ≤ length c.args.out.now = λ zero. first_fits lent _ c.requires _ _ c.pack-a.ensures zero in inside c.if-a-ne0.false

pub returns-then-b-ne0 : goal.returns-then-b-ne0
returns-then-b-ne0 c =
    let a = c.args in
    let lent = pair_of a.first.now a.first_slots.now a.second.now a.second_slots.now a.area.now a.out.now in
    second-refused lent _ c.requires _ _ c.pack-a.ensures c.if-a-ne0.false _ _ c.pack-b.ensures c.if-b-ne0.true

pub slice_bounds-copy_from_slice-end : goal.slice_bounds-copy_from_slice-end
slice_bounds-copy_from_slice-end c =
    let a = c.args in
    let lent = pair_of a.first.now a.first_slots.now a.second.now a.second_slots.now a.area.now a.out.now in
    last-holds lent _ c.requires _ _ c.pack-a.ensures c.if-a-ne0.false _ _ c.pack-b.ensures c.if-b-ne0.false

pub slice_bounds-copy_from_slice-end-2 : goal.slice_bounds-copy_from_slice-end-2
slice_bounds-copy_from_slice-end-2 c =
    let a = c.args in
    let lent = pair_of a.first.now a.first_slots.now a.second.now a.second_slots.now a.area.now a.out.now in
    sym (length-take-le _ _ (last-holds lent _ c.requires _ _ c.pack-a.ensures c.if-a-ne0.false _ _ c.pack-b.ensures c.if-b-ne0.false))

pub slice_bounds-copy_from_slice-end-3 : goal.slice_bounds-copy_from_slice-end-3
slice_bounds-copy_from_slice-end-3 c =
    let a = c.args in
    let lent = pair_of a.first.now a.first_slots.now a.second.now a.second_slots.now a.area.now a.out.now in
    left-holds lent _ c.requires _ _ c.pack-a.ensures c.if-a-ne0.false

pub slice_bounds-copy_from_slice-end-4 : goal.slice_bounds-copy_from_slice-end-4
slice_bounds-copy_from_slice-end-4 c =
    let a = c.args in
    let lent = pair_of a.first.now a.first_slots.now a.second.now a.second_slots.now a.area.now a.out.now in
    sym (length-take-le _ _ (left-holds lent _ c.requires _ _ c.pack-a.ensures c.if-a-ne0.false))

pub overflow_add-a : goal.overflow_add-a
overflow_add-a c =
    let a = c.args in
    let lent = pair_of a.first.now a.first_slots.now a.second.now a.second_slots.now a.area.now a.out.now in
    omega (arith, sum-small lent _ c.requires _ _ c.pack-a.ensures c.if-a-ne0.false _ _ c.pack-b.ensures c.if-b-ne0.false)

pub returns : goal.returns
returns c =
    let a = c.args in
    let lent = pair_of a.first.now a.first_slots.now a.second.now a.second_slots.now a.area.now a.out.now in
    both-packed lent _ c.requires _ _ c.pack-a.ensures c.if-a-ne0.false _ _ c.pack-b.ensures c.if-b-ne0.false _ c.accepted.ensures _
    c.copy_from_slice.ensures.after

pub slice_bounds-pack-start : goal.slice_bounds-pack-start
slice_bounds-pack-start c =
    let a = c.args in
    let lent = pair_of a.first.now a.first_slots.now a.second.now a.second_slots.now a.area.now a.out.now in
    first_fits lent _ c.requires _ _ c.pack-a.ensures c.if-a-ne0.false
