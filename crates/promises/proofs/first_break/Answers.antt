-- Where every field keeps the promise there is no place, and else it is that of the field after those that do.
use Rattle.promises.proofs.Calls.{breaks-none, breaks-at}
use Rattle.promises.proofs.first_break.Goals as goal

pub returns-then-codes-k : goal.returns-then-codes-k
returns-then-codes-k g c = λ q j. breaks-none _ _ c.requires.fields q _ (c.kept_front-k.ensures q j) c.if-codes-k.true

pub returns : goal.returns
returns g c = λ q j. breaks-at _ _ c.requires.fields q _ (c.kept_front-k.ensures q j) _ c.if-codes-k.false c.place_of.ensures
