-- The answer's three numbers are encoded, and the first is handed back.
use mathlib.Core.Path.{refl, ◌∙◌}
use mathlib.Core.List.{[], ◌∷◌}
use Rattle.host.specs.Host.{reply_of}
use Rattle.host.proofs.numbers.NumberLaws.{bytes_whole}
use Rattle.host.proofs.reply_with.Goals as goal

pub returns : goal.returns
unfolding reply_of
returns c =
    let a = c.args.a in
    (refl, c.encode_run.ensures ∙ bytes_whole c.args.reply.now (a.number ∷ a.first ∷ a.second ∷ []) c.requires)
