-- Twice the number without the sign is above twice that of infinity where the number is above it.
use Rattle.real.proofs.PatternLaws.{nan-shifted}
use Rattle.real.proofs.is_nan.Goals as goal

pub returns : goal.returns
returns c = nan-shifted c.args.d
