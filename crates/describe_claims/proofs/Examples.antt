-- The examples hold: the list is one statement, which the checker computes.
use lib.Dec.{T}
use Rattle.describe_claims.specs.Examples.{all, examples}

examples-hold : T (all examples)
unfolding all examples
examples-hold = tt
