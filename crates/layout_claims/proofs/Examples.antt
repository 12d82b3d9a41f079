-- The examples hold: one statement, whose parts the checker computes.
use Rattle.layout.specs.Layout.{fields_of}
use Rattle.layout_claims.specs.Examples.{Examples}

examples-hold : Examples
unfolding Examples fields_of
examples-hold = search
