-- The budget is enough for every step of the field.

use Rattle.std.proofs.Common.{◌∙◌}
use Rattle.digits.proofs.load.ShownSteps.{shown-whole}
use Rattle.digits.proofs.load.load_binary.Goals as goal

pub returns-clause-effect : goal.returns-clause-effect
returns-clause-effect c = λ u. c.load_steps.ensures ∙ shown-whole c.args.high u c.args.bytes.now c.args.shown.now c.requires
