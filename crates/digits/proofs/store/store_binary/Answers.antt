-- The budget is enough for every step of the field.

use Rattle.std.proofs.Common.{◌∙◌}
use Rattle.digits.proofs.store.StoredSteps.{stored-within}
use Rattle.digits.proofs.store.store_binary.Goals as goal

pub returns-clause-effect : goal.returns-clause-effect
returns-clause-effect c =
    let a = c.args in
    c.store_steps.ensures ∙ stored-within a.high a.given.now a.at a.n a.out.now c.requires.1
