-- The premise of saturation can be met: by an infinity, and by the largest finite double.
use Prim.Native.Nat.{◌-◌, ◌≤◌}
use mathlib.Core.Path.{refl}
use borrow.Author.Tests.{leb-true}
use Rattle.real.specs.Patterns.{double_magnitude, single_magnitude, double_infinity, single_infinity}

infinity : single_magnitude (single_infinity - 1) ≤ double_magnitude double_infinity
unfolding single_magnitude double_magnitude
infinity = leb-true (single_magnitude (single_infinity - 1)) (double_magnitude double_infinity) refl

largest : single_magnitude (single_infinity - 1) ≤ double_magnitude (double_infinity - 1)
unfolding single_magnitude double_magnitude
largest = leb-true (single_magnitude (single_infinity - 1)) (double_magnitude (double_infinity - 1)) refl
