-- A code's type number says what its field is: a value whose argument was checked, which is storable, or a move, which
-- has room.
use native.Mathlib.Omega.{arith}
use mathlib.Core.Path.{◌∙◌}
use Rattle.layout.proofs.Decoded.{code_shape, code-count}
use Rattle.pack_store.specs.inside.writing.{put}
use Rattle.pack_store.proofs.writing.WriteLaws.{puttable-data, storable, put-data, movable, no_value}
use Rattle.pack_store.proofs.writing.put.Goals as goal

pub slot_at-a-requires : goal.slot_at-a-requires
slot_at-a-requires c = let value = puttable-data _ _ _ _ _ _ c.requires c.if-d-le-LAST_DATA.true in omega (arith, value.ready.slot)

pub store_value-bytes-requires : goal.store_value-bytes-requires
store_value-bytes-requires c =
    let value = puttable-data _ _ _ _ _ _ c.requires c.if-d-le-LAST_DATA.true in
    (c.if-d-le-LAST_DATA.true, storable _ _ _ _ _ _ _ value _ c.slot_at-a.ensures _ (c.amount.ensures ∙ rw c.count_from-n.ensures))

pub store-requires : goal.store-requires
store-requires c =
    let value = puttable-data _ _ _ _ _ _ c.requires c.if-d-le-LAST_DATA.true in
    let s = storable _ _ _ _ _ _ _ value _ c.slot_at-a.ensures _ (c.amount.ensures ∙ rw c.count_from-n.ensures) in
    omega (arith, c.store_value-bytes.ensures.0, s.room, s.limit)

pub returns-then-d-le-LAST_DATA : goal.returns-then-d-le-LAST_DATA
returns-then-d-le-LAST_DATA c =
    let value = puttable-data _ _ _ _ _ _ c.requires c.if-d-le-LAST_DATA.true in
    let v = c.store_value-bytes in
    rw (code_shape _ c.if-d-le-LAST_DATA.true, code-count)
    (put-data _ _ _ _ _ _ _ value _ c.slot_at-a.ensures _ (c.amount.ensures ∙ rw c.count_from-n.ensures) _ v.ensures.0 _ c.store.ensures _ _ v.ensures.1)

pub unreachable-requires : goal.unreachable-requires
unreachable-requires c = no_value _ _ _ c.field_of-f.ensures.same c.if-d-le-LAST_DATA.false c.in_default.is

pub put_move-requires : goal.put_move-requires
put_move-requires c = movable _ _ _ _ _ _ _ (rw (← c.field_of-f.ensures.same, c.in-Move.is) at c.requires)

pub returns : goal.returns
unfolding put
returns c = rw (← c.field_of-f.ensures.same, c.in-Move.is) c.put_move.ensures
