-- A buffer that is too large is refused as either packing would; else the room has its length.
use mathlib.Core.Path.{sym}
use lib.Seq.{length-take-le}
use borrow.Author.Rules.{rules}
use Rattle.joining.proofs.pack_both.Calls.{too_large}
use Rattle.joining.proofs.pack_both.pack_both.Goals as goal

pub returns-then-size-gt-MAX_RECORD : goal.returns-then-size-gt-MAX_RECORD
returns-then-size-gt-MAX_RECORD c = too_large _ _ c.refused.ensures c.if-size-gt-MAX_RECORD.true

pub slice_bounds-room-end : goal.slice_bounds-room-end
slice_bounds-room-end c = search rules

pub slice_bounds-both_by-end : goal.slice_bounds-both_by-end
slice_bounds-both_by-end c = sym (length-take-le _ _ (search rules))

pub both_by-requires : goal.both_by-requires
both_by-requires c = length-take-le _ _ (search rules)
