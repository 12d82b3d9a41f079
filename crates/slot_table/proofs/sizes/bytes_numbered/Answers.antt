-- Each form's bytes are computed as the definition says; a shift is a product.
use Rattle.layout.proofs.Numbered.{shape-text, shape-binary, shape-hex}
use Rattle.record.proofs.Bounds.{sized-bytes, shifted-bytes}
use native.Mathlib.Omega.{arith}
use Rattle.slot_table.proofs.sizes.bytes_numbered.Goals as goal

pub returns-then-d-gt-LAST_DIGITS : goal.returns-then-d-gt-LAST_DIGITS
returns-then-d-gt-LAST_DIGITS c =
    rw (sized-bytes _ _ c.if-d-gt-LAST_DIGITS.true c.requires.1) (shifted-bytes _ _ _ c.width_power.ensures.0 c.width_power.ensures.1 c.requires.0)

pub returns-then-d-le-LAST_TEXT : goal.returns-then-d-le-LAST_TEXT
returns-then-d-le-LAST_TEXT c = rw (shape-text _ c.if-d-le-LAST_TEXT.true)

pub returns-then-d-le-LAST_BINARY : goal.returns-then-d-le-LAST_BINARY
returns-then-d-le-LAST_BINARY c = rw (shape-binary _ c.if-d-le-LAST_TEXT.false c.if-d-le-LAST_BINARY.true) (omega (arith, c.div_ceil.ensures))

pub returns-else-d-le-LAST_BINARY : goal.returns-else-d-le-LAST_BINARY
returns-else-d-le-LAST_BINARY c = rw (shape-hex _ c.if-d-le-LAST_BINARY.false (omega arith)) (omega (arith, c.div_ceil-else-d-le-LAST_BINARY.ensures))
