-- The numbers are decoded, the call on numbers gives the mean, which is no NaN, and its answer is the reply.
use Rattle.std.proofs.Common.{rules}
use Rattle.mean.proofs.marks.Theorems.{mean-numeric}
use Rattle.host_mean.proofs.Calls.{mean-replied}
use Rattle.host_mean.proofs.mean_by.Goals as goal

pub reply_with-requires : goal.reply_with-requires
reply_with-requires c = (search rules, rw c.mean.ensures (mean-numeric _ _))

pub returns : goal.returns
returns c = mean-replied _ _ c.decode.ensures c.mean.ensures c.reply_with.ensures
