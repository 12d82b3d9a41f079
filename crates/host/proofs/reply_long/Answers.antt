-- The answer's three numbers and the fourth are encoded, and the first is handed back.
use mathlib.Core.Path.{refl, ◌∙◌}
use mathlib.Core.List.{[], ◌∷◌}
use Rattle.host.specs.Host.{long_reply}
use Rattle.host.proofs.numbers.NumberLaws.{bytes_whole}
use Rattle.host.proofs.reply_long.Goals as goal

pub returns : goal.returns
unfolding long_reply
returns c =
    let a = c.args.a in
    (refl, c.encode_run.ensures ∙ bytes_whole c.args.reply.now (a.number ∷ a.first ∷ a.second ∷ c.args.fourth ∷ []) c.requires)
