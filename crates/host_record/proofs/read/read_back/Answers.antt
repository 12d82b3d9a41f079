-- A refusal leaves the slots; an accepted reading has their numbers encoded.
use Rattle.host_record.proofs.read.Calls.{left_back, set_back}
use borrow.Author.Rules.{rules}
use Rattle.host_record.proofs.read.read_back.Goals as goal

pub returns-then-a-ne0 : goal.returns-then-a-ne0
returns-then-a-ne0 c = (c.reply_long.ensures.0, c.reply_long.ensures.1, left_back _ _ _ c.if-a-ne0.true)

pub encode-requires : goal.encode-requires
encode-requires c = (search rules, c.requires.2 c.if-a-ne0.false)

pub returns : goal.returns
returns c = (c.reply_long-2.ensures.0, c.reply_long-2.ensures.1, set_back _ _ _ c.if-a-ne0.false c.encode.ensures)
