-- The call on numbers rescues over slots of any content, and its answer is the reply; an accepted one writes back the
-- slots of the legs.
use Rattle.record.proofs.Bytes.{all-below}
use Rattle.rescue.proofs.Unset.{legs-there}
use Rattle.host_sheet.proofs.damaged.Calls.{rescue-left, rescue-set}
use borrow.Author.Rules.{rules}
use Rattle.host_sheet.proofs.damaged.rescue_by.Goals as goal

pub returns-then-a-ne0 : goal.returns-then-a-ne0
returns-then-a-ne0 c =
    rescue-left _ _ _ _ _ c.args.room.now c.requires.1 c.rescue-a.ensures c.reply_with.ensures c.if-a-ne0.true

pub encode-requires : goal.encode-requires
encode-requires c =
    (search rules, legs-there _ _ _ _ c.args.room.now c.rescue-a.ensures c.if-a-ne0.false (search rules))

pub returns : goal.returns
returns c =
    rescue-set _ _ c.args.slots.now _ _ c.args.room.now c.requires.1 c.rescue-a.ensures
    c.reply_with-2.ensures c.if-a-ne0.false (all-below c.args.slots.now
    (λ i. (c.slice_known-1.given i).fits)) c.encode.ensures
