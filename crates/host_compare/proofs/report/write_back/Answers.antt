-- A refusal leaves all but the reply; an accepted comparison has the numbers of its slots and findings encoded.
use Rattle.host_compare.proofs.report.Laws.{left_back, set_back}
use Rattle.host_compare.proofs.report.write_back.Goals as goal

pub returns-then-a-ne0 : goal.returns-then-a-ne0
returns-then-a-ne0 c =
    let replied = c.reply_with.ensures in
    let h = c.if-a-ne0.true in
    (replied.0, replied.1, (left_back _ _ _ h, left_back _ _ _ h, left_back _ _ _ h))

pub returns : goal.returns
returns c =
    let replied = c.reply_with-2.ensures in
    let z = c.if-a-ne0.false in
    (replied.0, replied.1, (set_back _ _ _ z c.encode.ensures, set_back _ _ _ z c.encode-2.ensures, set_back _ _ _ z c.encode_run.ensures))
