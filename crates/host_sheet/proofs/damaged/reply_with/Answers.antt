-- The reply of four numbers is one of an answer and a fourth number.
use Rattle.host.specs.Host.{long_reply}
use Rattle.host_sheet.specs.Rescuing.{rescue_reply}
use Rattle.host_sheet.proofs.damaged.reply_with.Goals as goal

pub returns : goal.returns
unfolding rescue_reply long_reply
returns c = c.reply_long.ensures
