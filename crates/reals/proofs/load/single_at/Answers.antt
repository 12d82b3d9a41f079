-- The number of the four bytes is the single's.
use Rattle.reals.proofs.load.LoadLaws.{by-four}
use Rattle.reals.proofs.load.single_at.Goals as goal

pub returns : goal.returns
returns c = by-four c.four_at.result _ c.four_at.ensures.0 c.four_at.ensures.1
