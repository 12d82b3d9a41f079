-- The answer's numbers and whether a mean follows are encoded, then the pattern; the answer's number is handed back.
use Rattle.std.proofs.Common.{refl, ◌∙◌}
use Rattle.host_mean.specs.Calls.{mean_reply}
use Rattle.host_mean.proofs.Calls.{follows-is, reply-filled}
use Rattle.host_mean.proofs.reply_with.Goals as goal

pub returns : goal.returns
unfolding mean_reply
returns c =
    (refl, c.put_number.ensures ∙ rw (c.pattern.ensures, c.encode_run.ensures, follows-is c.args.r.mean c.from.ensures c.is_some.ensures) (reply-filled c.args.reply.now _ _ _ _ _ c.requires.0))
