-- The call on numbers reads over slots of any content, and its answer is the reply; an accepted one writes back the
-- slots that it set.
use Rattle.record.proofs.Bytes.{all-below}
use Rattle.sheet.proofs.Unset.{set-few}
use Rattle.host_sheet.proofs.read.Calls.{read_left, read_set}
use borrow.Author.Rules.{rules}
use Rattle.host_sheet.proofs.read.read_by.Goals as goal

pub returns-then-a-ne0 : goal.returns-then-a-ne0
returns-then-a-ne0 c =
    read_left _ _ _ _ c.args.room.now c.requires.1 c.read-a.ensures c.reply_with.ensures c.if-a-ne0.true

pub encode-requires : goal.encode-requires
encode-requires c =
    (search rules, set-few _ _ _ c.args.room.now c.read-a.ensures c.if-a-ne0.false (search rules))

pub returns : goal.returns
returns c =
    read_set _ c.args.slots.now _ _ c.args.room.now c.requires.1 c.read-a.ensures
    c.reply_with-2.ensures c.if-a-ne0.false (all-below c.args.slots.now
    (λ i. (c.slice_known-1.given i).fits)) c.encode.ensures
