-- The examples hold: one statement, which the checker computes.
use lib.Dec.{T}
use Rattle.mean.specs.Examples.{all, examples}

examples-hold : T (all examples)
unfolding examples all
examples-hold = tt
