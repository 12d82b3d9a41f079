-- The number and its digits are those that the rest of the text leads to from here.
use Prim.Native.Nat.{◌+◌, ◌≤◌}
use mathlib.Core.Path.{◌≡◌}
use lib.ListN.{drop}
use Rattle.perl.specs.Tokens.{number_in, digits_in}
use Rattle.perl.proofs.tokens.number.Given as goal

abbrev pub invariant-loop-digits : goal.invariant-loop-digits
invariant-loop-digits l =
    (l.value ≤ l.limit) × (number_in l.limit l.value (drop l.digits l.text) ≡ number_in l.limit 0 l.text)
    × (l.digits + digits_in l.limit l.value (drop l.digits l.text) ≡ digits_in l.limit 0 l.text)
