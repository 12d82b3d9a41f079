-- The examples are computed.
use Rattle.plans_claims.specs.Examples.{all_as_told, examples, PlansAsTold}

plans-as-told : PlansAsTold
unfolding all_as_told examples
plans-as-told = tt
