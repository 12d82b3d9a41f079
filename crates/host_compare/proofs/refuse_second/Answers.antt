-- What the check of the first reading says is the answer, if it is a refusal; else the second table's is.
use mathlib.Core.Path.{◌∙◌}
use borrow.Author.Rules.{rules}
use Rattle.host_compare.proofs.Calls.{said, cut-first, cut-second, checks-same}
use Rattle.host_compare.proofs.refuse_second.Goals as goal

pub returns-then-a-ne0 : goal.returns-then-a-ne0
returns-then-a-ne0 c = said (cut-first (c.check-a.ensures ∙ checks-same _ _ _ _ _ (search rules)) c.if-a-ne0.true) c.reply_with.ensures

pub returns : goal.returns
returns c = said (c.refused.ensures ∙ cut-second (c.check-a.ensures ∙ checks-same _ _ _ _ _ (search rules)) c.if-a-ne0.false) c.reply_with-2.ensures
