-- Each way out is one law of the bound of a code's field.
use native.Mathlib.Omega.{arith}
use Rattle.reading.proofs.measure.Bounds.{bound-moved, bound-string, bound-numbers}
use Rattle.reading.proofs.measure.field_bound.Goals as goal

pub returns-then-d-gt-LAST_DATA : goal.returns-then-d-gt-LAST_DATA
returns-then-d-gt-LAST_DATA c = (bound-moved _ _ c.if-d-gt-LAST_DATA.true, omega arith)

pub returns-then-d-le-LAST_DIGITS : goal.returns-then-d-le-LAST_DIGITS
returns-then-d-le-LAST_DIGITS c = (bound-string _ _ c.if-d-gt-LAST_DATA.false c.items-items.ensures.0 c.if-d-le-LAST_DIGITS.true, omega (arith, c.items-items.ensures.1))

pub returns-else-d-le-LAST_DIGITS : goal.returns-else-d-le-LAST_DIGITS
returns-else-d-le-LAST_DIGITS c = (bound-numbers _ _ c.if-d-gt-LAST_DATA.false c.items-items.ensures.0 c.if-d-le-LAST_DIGITS.false, omega (arith, c.items-items.ensures.1))
