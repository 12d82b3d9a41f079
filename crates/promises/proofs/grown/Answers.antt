-- The place of the first field that differs, then of the first that is not plain, of the first that takes a slot too
-- many and of the first that ends too far; and where there is none of them, the fields are counted.
use native.Mathlib.Omega.{arith}
use mathlib.Core.Path.{sym, subst}
use lib.ListN.{length}
use Rattle.layout.proofs.Decoded.{decoded-length}
use Rattle.promises.specs.Promises.{is_plain, in_table, in_record}
use Rattle.promises.specs.inside.Walk.{Short, BreaksAt}
use Rattle.promises.proofs.Calls.{grown-differs, grown-breaks, grown-slots, grown-room, grown-told, grown-few}
use Rattle.promises.proofs.grown.Goals as goal

pub returns-then-k-old : goal.returns-then-k-old
returns-then-k-old c =
    let long = decoded-length (length c.args.old.now) c.args.old.now (omega arith) in
    rw (c.refused.ensures, c.at.ensures)
    (grown-differs _ _ c.requires.1 _ _ c.same_front-k.ensures _ (omega (arith, long, c.if-k-old.true)) c.place_of.ensures)

pub refused-requires-in-Some : goal.refused-requires-in-Some
refused-requires-in-Some c =
    let plain : BreaksAt c.args.text.now is_plain c.first_break.result = c.first_break.ensures is_plain (λ r f b e. e.2) in
    rw c.at-in-Some.ensures (subst Short c.in-Some.is plain.short)

pub returns-in-Some : goal.returns-in-Some
returns-in-Some c =
    let long = decoded-length (length c.args.old.now) c.args.old.now (omega arith) in
    let plain : BreaksAt c.args.text.now is_plain c.first_break.result = c.first_break.ensures is_plain (λ r f b e. e.2) in
    rw (c.refused-in-Some.ensures, c.at-in-Some.ensures)
    (grown-breaks _ _ c.requires.1 _ _ c.same_front-k.ensures (omega (arith, long, c.if-k-old.false)) plain _ c.in-Some.is (subst Short c.in-Some.is plain.short))

pub refused-requires-in-Some-first_break : goal.refused-requires-in-Some-first_break
refused-requires-in-Some-first_break c =
    let table : BreaksAt c.args.text.now in_table c.first_break-2.result = c.first_break-2.ensures in_table (λ r f b e. e.2) in
    rw c.at-in-Some-first_break.ensures (subst Short c.in-Some-first_break.is table.short)

pub returns-in-Some-first_break : goal.returns-in-Some-first_break
returns-in-Some-first_break c =
    let long = decoded-length (length c.args.old.now) c.args.old.now (omega arith) in
    let plain : BreaksAt c.args.text.now is_plain c.first_break.result = c.first_break.ensures is_plain (λ r f b e. e.2) in
    let table : BreaksAt c.args.text.now in_table c.first_break-2.result = c.first_break-2.ensures in_table (λ r f b e. e.2) in
    rw (c.refused-in-Some-first_break.ensures, c.at-in-Some-first_break.ensures)
    (grown-slots _ _ c.requires.1 _ _ c.same_front-k.ensures (omega (arith, long, c.if-k-old.false)) plain c.in_default.is table _
    c.in-Some-first_break.is (subst Short c.in-Some-first_break.is table.short))

pub refused-requires-in-Some-first_break-2 : goal.refused-requires-in-Some-first_break-2
refused-requires-in-Some-first_break-2 c =
    let room : BreaksAt c.args.text.now in_record c.first_break-3.result = c.first_break-3.ensures in_record (λ r f b e. e.2) in
    rw c.at-in-Some-first_break-2.ensures (subst Short c.in-Some-first_break-2.is room.short)

pub returns-in-Some-first_break-2 : goal.returns-in-Some-first_break-2
returns-in-Some-first_break-2 c =
    let long = decoded-length (length c.args.old.now) c.args.old.now (omega arith) in
    let plain : BreaksAt c.args.text.now is_plain c.first_break.result = c.first_break.ensures is_plain (λ r f b e. e.2) in
    let table : BreaksAt c.args.text.now in_table c.first_break-2.result = c.first_break-2.ensures in_table (λ r f b e. e.2) in
    let room : BreaksAt c.args.text.now in_record c.first_break-3.result = c.first_break-3.ensures in_record (λ r f b e. e.2) in
    rw (c.refused-in-Some-first_break-2.ensures, c.at-in-Some-first_break-2.ensures)
    (grown-room _ _ c.requires.1 _ _ c.same_front-k.ensures (omega (arith, long, c.if-k-old.false)) plain c.in_default.is table
    c.in_default-first_break.is room _ c.in-Some-first_break-2.is (subst Short c.in-Some-first_break-2.is room.short))

pub overflow_sub-new : goal.overflow_sub-new
overflow_sub-new c =
    let long = decoded-length (length c.args.old.now) c.args.old.now (omega arith) in
    omega (arith, long, grown-few _ _ c.requires.1 _ _ c.same_front-k.ensures (omega (arith, long, c.if-k-old.false)))

pub returns : goal.returns
returns c =
    let long = decoded-length (length c.args.old.now) c.args.old.now (omega arith) in
    let plain : BreaksAt c.args.text.now is_plain c.first_break.result = c.first_break.ensures is_plain (λ r f b e. e.2) in
    let table : BreaksAt c.args.text.now in_table c.first_break-2.result = c.first_break-2.ensures in_table (λ r f b e. e.2) in
    let room : BreaksAt c.args.text.now in_record c.first_break-3.result = c.first_break-3.ensures in_record (λ r f b e. e.2) in
    rw c.accepted.ensures
    (grown-told _ _ c.requires.1 _ _ c.same_front-k.ensures (omega (arith, long, c.if-k-old.false)) plain c.in_default.is table
    c.in_default-first_break.is room c.in_default-first_break-2.is _ (sym long))
