-- The examples hold: each list is one statement, which the checker computes.
use Rattle.evolution.specs.Examples.{all, checked, more, CheckedHold, MoreHold}

checked-hold : CheckedHold
unfolding all checked
checked-hold = tt

more-hold : MoreHold
unfolding all more
more-hold = tt
