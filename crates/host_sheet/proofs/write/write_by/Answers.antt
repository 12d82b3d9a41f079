-- The numbers are decoded, the call on numbers writes, and its answer is the reply.
use Rattle.host_sheet.proofs.write.Calls.{write-replied}
use Rattle.host_sheet.proofs.write.write_by.Goals as goal

pub returns : goal.returns
returns c =
    write-replied _ _ _ c.decode.ensures c.write-a.ensures c.reply_with.ensures
