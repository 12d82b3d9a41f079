-- What the loop keeps is `Listing`: the rows written so far with those of the fields ahead are all rows.
use Prim.Native.Nat.{◌+◌, ◌≤◌, ◌<◌}
use native.Mathlib.Omega.{arith}
use lib.ListN.{length}
use mathlib.Core.Path.{◌≡◌, ap}
use borrow.Author.Rules.{rules}
use Rattle.layout.specs.Layout.{max_layout, to_nat, takes_slot}
use Rattle.layout.proofs.Steps.{bit_le}
use Rattle.describe.specs.declared.fields.Row.{Row}
use Rattle.describe.specs.inside.Walk.{Safe}
use Rattle.describe.proofs.fields.Listing.{listing_none, listing-space, listing-some, listing-taken, listing-inside, listing-next, listing-done}
use Rattle.describe.proofs.fields.put_rows.Goals as goal

pub loop-at-init : goal.loop-at-init
loop-at-init c =
    (c.requires.0, listing_none _ _ _ _ c.requires.0)

pub loop-at-preserved-then-text-at-eq32 : goal.loop-at-preserved-then-text-at-eq32
loop-at-preserved-then-text-at-eq32 c =
    (c.loop-at.invariant.0, listing-space _ _ _ _ c.loop-at.invariant.0 _ _ _ _ _ c.loop-at.invariant.1 c.loop-at-test.true c.if-text-at-eq32.true)

pub offset_bounds-codes-i : goal.offset_bounds-codes-i
offset_bounds-codes-i c =
    let some : c.loop-at.i < length c.args.codes.now =
    let l = c.loop-at in
    listing-some _ _ _ _ l.invariant.0 _ _ _ _ _ l.invariant.1 c.loop-at-test.true c.if-text-at-eq32.false in
    let few : c.loop-at.i < max_layout = let h = c.loop-at.invariant.0 in omega (arith, some, h.few, h.room) in omega (arith, few)

pub bounds-codes-i : goal.bounds-codes-i
bounds-codes-i c =
    let some : c.loop-at.i < length c.args.codes.now =
    let l = c.loop-at in
    listing-some _ _ _ _ l.invariant.0 _ _ _ _ _ l.invariant.1 c.loop-at-test.true c.if-text-at-eq32.false in omega (arith, some, c.loop-at.invariant.0.few)

pub row_at-r-requires : goal.row_at-r-requires
row_at-r-requires c =
    let some : c.loop-at.i < length c.args.codes.now =
    let l = c.loop-at in
    listing-some _ _ _ _ l.invariant.0 _ _ _ _ _ l.invariant.1 c.loop-at-test.true c.if-text-at-eq32.false in
    let few : c.loop-at.i < max_layout = let h = c.loop-at.invariant.0 in omega (arith, some, h.few, h.room) in
    let ready : Safe c.field_of-f.result.role c.field_of-f.result.count c.loop-at.t =
    let l = c.loop-at in
    listing-taken _ _ _ _ l.invariant.0 _ _ _ _ _ l.invariant.1 c.loop-at-test.true c.if-text-at-eq32.false _ c.field_of-f.ensures in
    let l = c.loop-at in
    (c.loop-at-test.true, l.invariant.0.short, omega (arith, few, l.invariant.1.taken), ready)

pub overflow_mul-i : goal.overflow_mul-i
overflow_mul-i c =
    let some : c.loop-at.i < length c.args.codes.now =
    let l = c.loop-at in
    listing-some _ _ _ _ l.invariant.0 _ _ _ _ _ l.invariant.1 c.loop-at-test.true c.if-text-at-eq32.false in
    let few : c.loop-at.i < max_layout = let h = c.loop-at.invariant.0 in omega (arith, some, h.few, h.room) in omega (arith, few)

pub put_row-requires : goal.put_row-requires
put_row-requires c =
    let some : c.loop-at.i < length c.args.codes.now =
    let l = c.loop-at in
    listing-some _ _ _ _ l.invariant.0 _ _ _ _ _ l.invariant.1 c.loop-at-test.true c.if-text-at-eq32.false in
    omega (arith, some, c.loop-at.invariant.1.long, c.requires.1)

pub overflow_cast-at : goal.overflow_cast-at
overflow_cast-at c =
    let inside : c.loop-at.at + c.row_at-r.result.size ≤ length c.args.text.now =
    let l = c.loop-at in
    listing-inside _ _ _ _ l.invariant.0 _ _ _ _ _ l.invariant.1 c.loop-at-test.true c.if-text-at-eq32.false _ c.field_of-f.ensures _ c.row_at-r.ensures in
    omega (arith, inside, c.loop-at.invariant.0.short)

pub overflow_add-at-else-text-at-eq32 : goal.overflow_add-at-else-text-at-eq32
overflow_add-at-else-text-at-eq32 c =
    let inside : c.loop-at.at + c.row_at-r.result.size ≤ length c.args.text.now =
    let l = c.loop-at in
    listing-inside _ _ _ _ l.invariant.0 _ _ _ _ _ l.invariant.1 c.loop-at-test.true c.if-text-at-eq32.false _ c.field_of-f.ensures _ c.row_at-r.ensures in
    omega (arith, inside, c.loop-at.invariant.0.short)

pub overflow_add-slot : goal.overflow_add-slot
overflow_add-slot c =
    let slot : c.from.result ≡ to_nat (takes_slot c.field_of-f.result.role) = search rules in
    let some : c.loop-at.i < length c.args.codes.now =
    let l = c.loop-at in
    listing-some _ _ _ _ l.invariant.0 _ _ _ _ _ l.invariant.1 c.loop-at-test.true c.if-text-at-eq32.false in
    let few : c.loop-at.i < max_layout = let h = c.loop-at.invariant.0 in omega (arith, some, h.few, h.room) in
    omega (
      arith,
      few,
      c.loop-at.invariant.1.taken,
      slot,
      bit_le
          (takes_slot c.field_of-f.result.role),
    )

pub onward-t-requires : goal.onward-t-requires
onward-t-requires c =
    let ready : Safe c.field_of-f.result.role c.field_of-f.result.count c.loop-at.t =
    let l = c.loop-at in
    listing-taken _ _ _ _ l.invariant.0 _ _ _ _ _ l.invariant.1 c.loop-at-test.true c.if-text-at-eq32.false _ c.field_of-f.ensures in ready

pub overflow_add-i : goal.overflow_add-i
overflow_add-i c =
    let some : c.loop-at.i < length c.args.codes.now =
    let l = c.loop-at in
    listing-some _ _ _ _ l.invariant.0 _ _ _ _ _ l.invariant.1 c.loop-at-test.true c.if-text-at-eq32.false in
    let few : c.loop-at.i < max_layout = let h = c.loop-at.invariant.0 in omega (arith, some, h.few, h.room) in omega (arith, few)

pub loop-at-smaller : goal.loop-at-smaller
loop-at-smaller c =
    let inside : c.loop-at.at + c.row_at-r.result.size ≤ length c.args.text.now =
    let l = c.loop-at in
    listing-inside _ _ _ _ l.invariant.0 _ _ _ _ _ l.invariant.1 c.loop-at-test.true c.if-text-at-eq32.false _ c.field_of-f.ensures _ c.row_at-r.ensures in
    omega (arith, inside, ap (λ (r : Row). r.size) c.row_at-r.ensures)

pub loop-at-preserved : goal.loop-at-preserved
loop-at-preserved c =
    let slot : c.from.result ≡ to_nat (takes_slot c.field_of-f.result.role) = search rules in
    let l = c.loop-at in (
      l.invariant.0,
      listing-next _ _ _ _ l.invariant.0 _ _ _ _ _ l.invariant.1 c.loop-at-test.true c.if-text-at-eq32.false _
          c.field_of-f.ensures _ c.row_at-r.ensures _
          c.put_row.ensures _ c.onward-t.ensures _
          slot c.requires.1,
    )

pub shape_of-out : goal.shape_of-out
shape_of-out c = c.loop-at.invariant.1.long

pub returns : goal.returns
returns c = listing-done _ _ _ _ c.loop-at.invariant.0 _ _ _ _ _ c.loop-at.invariant.1 c.loop-at-test.false
