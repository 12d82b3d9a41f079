-- The examples hold: the list is one statement, which the checker computes. So is the reading that module `older` asks
-- about.
use mathlib.Core.Path.{◌≡◌, refl}
use lib.ListN.{replicate}
use lib.Dec.{T}
use Rattle.sheet.specs.Sheet.{read_sheet}
use Rattle.sheet.specs.Examples.{long_sheet}
use Rattle.sheet_claims.specs.Examples.{all, examples}

examples-hold : T (all examples)
unfolding all examples
examples-hold = tt

-- the version 2 sheet is accepted
pub long-read : (read_sheet long_sheet (replicate 4 9) (replicate 65533 170) 0).answer.number ≡ 0
unfolding long_sheet read_sheet
long-read = refl
