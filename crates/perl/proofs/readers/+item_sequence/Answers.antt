-- An item is a letter, or a group whose items the sequence one level deeper read. Each turn of the loop reads one piece
-- more, and each return is what the definition says of the piece that stands there.
use Prim.Native.Nat.{◌+◌, ◌≤◌}
use mathlib.Core.Bool.{false}
use lib.ListN.{length}
use native.Mathlib.Omega.{arith}
use mathlib.Core.Path.{◌∙◌, subst}
use borrow.Author.Rules.{rules}
use Rattle.perl.specs.Tokens.{max_repeat}
use Rattle.perl.specs.inside.Readers.{items_from, item_from, template_text, item_text, Written}
use Rattle.perl.proofs.tokens.Numbers.{repeats}
use Rattle.perl.proofs.items.Letters.{rest-is, count-inside}
use Rattle.perl.proofs.readers.Turns.{letter-item, too-deep, group-bounds, group-stray, group-written, turn-space, turn-item, item-after, ends-top, ends_open, ends_close, ends-bare, ends-bad}
use Rattle.perl.proofs.readers.+item_sequence.Goals as goal

pub item-returns-then-text-p-ne40 : goal.item-returns-then-text-p-ne40
item-returns-then-text-p-ne40 t c = letter-item _ _ _ c.if-text-p-ne40.true c.single.ensures

pub item-returns-then-depth-ge-MAX_DEPTH : goal.item-returns-then-depth-ge-MAX_DEPTH
item-returns-then-depth-ge-MAX_DEPTH t c = too-deep _ _ _ _ _ c.if-text-p-ne40.false c.if-depth-ge-MAX_DEPTH.true

pub item-returns-in_err-inside : goal.item-returns-in_err-inside
item-returns-in_err-inside t c =
    subst (λ r. Written item_text (item_from c.args.depth c.args.text.now c.args.p) c.args.to c.args.out.now r c.sequence.new.out) (search rules)
    (group-stray _ _ _ c.if-text-p-ne40.false c.if-depth-ge-MAX_DEPTH.false c.requires.0 _ _ _ _ c.sequence.ensures
    _ c.in_err-inside.was)

pub item-overflow_add-after : goal.item-overflow_add-after
item-overflow_add-after t c =
    let h = group-bounds _ _ _ c.if-text-p-ne40.false c.if-depth-ge-MAX_DEPTH.false c.requires.0 _ _ _ _
    c.sequence.ensures _ c.in_ok-inside.was c.requires.3 in
    record { fits = omega (arith, h.0, c.requires.1) }

pub item-slice_bounds-number-count : goal.item-slice_bounds-number-count
item-slice_bounds-number-count t c =
    let h = group-bounds _ _ _ c.if-text-p-ne40.false c.if-depth-ge-MAX_DEPTH.false c.requires.0 _ _ _ _
    c.sequence.ensures _ c.in_ok-inside.was c.requires.3 in
    omega (arith, h.0)

pub item-slice_bounds-number-start : goal.item-slice_bounds-number-start
item-slice_bounds-number-start t c =
    let h = group-bounds _ _ _ c.if-text-p-ne40.false c.if-depth-ge-MAX_DEPTH.false c.requires.0 _ _ _ _
    c.sequence.ensures _ c.in_ok-inside.was c.requires.3 in
    let inside : c.in_ok-inside.inside.next + 1 ≤ length c.args.text.now = omega (arith, h.0) in search rules

pub item-again-end-requires : goal.item-again-end-requires
item-again-end-requires t c =
    let h = group-bounds _ _ _ c.if-text-p-ne40.false c.if-depth-ge-MAX_DEPTH.false c.requires.0 _ _ _ _
    c.sequence.ensures _ c.in_ok-inside.was c.requires.3 in
    let n = repeats _ _ _ c.number-n.ensures.0 c.repeat_of-times.ensures in
    (h.1, h.2, n.0, n.1, c.sequence.ensures.long ∙ c.requires.2)

pub item-overflow_add-result : goal.item-overflow_add-result
item-overflow_add-result t c =
    let h = group-bounds _ _ _ c.if-text-p-ne40.false c.if-depth-ge-MAX_DEPTH.false c.requires.0 _ _ _ _
    c.sequence.ensures _ c.in_ok-inside.was c.requires.3 in
    let n = count-inside c.args.text.now (c.in_ok-inside.inside.next + 1) max_repeat c.number-n.result.digits (omega (arith, h.0)) c.number-n.ensures.1 in
    record { fits = omega (arith, n, c.requires.1) }

pub item-returns : goal.item-returns
item-returns t c =
    group-written _ _ _ c.if-text-p-ne40.false c.if-depth-ge-MAX_DEPTH.false c.requires.0 _ _ _ _ c.sequence.ensures
    _ c.in_ok-inside.was _ _ _ _ (rw (rest-is c.args.text.now (c.in_ok-inside.inside.next + 1)) at c.number-n.ensures) c.repeat_of-times.ensures c.again-end.ensures

pub sequence-loop-span-preserved-in-32 : goal.sequence-loop-span-preserved-in-32
sequence-loop-span-preserved-in-32 t c =
    turn-space _ _ _ _ _ _ _ _ c.loop-span.invariant c.loop-span-test.true c.in-32.is

pub sequence-returns-in-41 : goal.sequence-returns-in-41
sequence-returns-in-41 t c =
    ends_close _ _ _ _ _ _ _ _ c.loop-span.invariant c.loop-span-test.true (λ e. omega arith) c.in-41.is (omega arith) c.if-filled.true

pub sequence-returns-in-41-2 : goal.sequence-returns-in-41-2
sequence-returns-in-41-2 t c =
    ends-bare _ _ _ _ _ _ _ _ c.loop-span.invariant c.loop-span-test.true (λ e. omega arith) c.in-41.is (λ h e. cc)

pub sequence-returns-in-41-2-2 : goal.sequence-returns-in-41-2-2
sequence-returns-in-41-2-2 t c =
    ends-bare _ _ _ _ _ _ _ _ c.loop-span.invariant c.loop-span-test.true (λ e. omega arith) c.in-41.is (λ h e. omega arith)

pub sequence-returns-in_err-span-in_default : goal.sequence-returns-in_err-span-in_default
sequence-returns-in_err-span-in_default t c =
    subst (λ r. Written template_text (items_from c.args.depth false c.args.text.now c.args.at) c.args.to c.args.out.now r c.item.new.out) (search rules)
    (ends-bad _ _ _ _ _ _ _ _ c.loop-span.invariant c.loop-span-test.true (search rules) (search rules) _ _ c.item.ensures _ c.in_err-span-in_default.was)

pub sequence-loop-span-smaller : goal.sequence-loop-span-smaller
sequence-loop-span-smaller t c =
    let after = item-after _ _ _ _ _ _ _ _ c.loop-span.invariant c.loop-span-test.true (search rules) (search rules) _ _ c.item.ensures _ c.in_ok-span-in_default.was in
    omega (arith, after)

pub sequence-loop-span-preserved : goal.sequence-loop-span-preserved
sequence-loop-span-preserved t c =
    turn-item _ _ _ _ _ _ _ _ c.loop-span.invariant c.loop-span-test.true (search rules) (search rules) _ _
    c.item.ensures _ c.in_ok-span-in_default.was c.requires.2

pub sequence-returns-then-depth-eq0 : goal.sequence-returns-then-depth-eq0
sequence-returns-then-depth-eq0 t c = ends-top _ _ _ _ _ _ _ _ c.loop-span.invariant c.loop-span-test.false c.if-depth-eq0.true

pub sequence-returns-else-depth-eq0 : goal.sequence-returns-else-depth-eq0
sequence-returns-else-depth-eq0 t c = ends_open _ _ _ _ _ _ _ _ c.loop-span.invariant c.loop-span-test.false c.if-depth-eq0.false
