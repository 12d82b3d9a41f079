-- Each form's items are computed as the definition says; a shift is a quotient.
use native.Mathlib.Omega.{arith}
use Rattle.layout.proofs.Numbered.{shape-text, shape-binary, shape-hex}
use Rattle.record.proofs.Bounds.{sized-items}
use Rattle.reading.proofs.positions.items_in.Goals as goal

pub returns-in-0-to-1 : goal.returns-in-0-to-1
returns-in-0-to-1 c = rw (shape-text c.args.d (omega arith))

pub returns-in-0-to-3 : goal.returns-in-0-to-3
returns-in-0-to-3 c = rw (shape-binary c.args.d (omega arith) (omega arith))

pub returns-in_default : goal.returns-in_default
returns-in_default c = rw (shape-hex c.args.d (omega arith) (omega arith))

pub returns-in-6-to-4294967295 : goal.returns-in-6-to-4294967295
returns-in-6-to-4294967295 c = rw (sized-items c.args.d _ (omega arith) c.requires.1, ← c.width_power.ensures.0)
