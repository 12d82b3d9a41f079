-- Each number is what the definition says of the field.
use native.Mathlib.Omega.{arith}
use mathlib.Core.Path.{◌∙◌}
use Rattle.describe.proofs.fields.RowLaws.{size_small, bit_number, row_is}
use Rattle.describe.proofs.fields.row_at.Goals as goal

pub overflow_cast-result-2 : goal.overflow_cast-result-2
overflow_cast-result-2 c =
    record { fits = omega (arith, size_small _ _ _ _ _ c.tail_at-tail.ensures c.requires.0 c.requires.1) }

pub returns : goal.returns
returns c =
    rw c.from.ensures (row_is _ _ _ _ _ c.tail_at-tail.ensures c.args.f c.args.slot c.args.t _ _ _ _ _ _
    (c.from-2.ensures ∙ bit_number c.args.f.unsigned) c.count_number.ensures c.slot_number.ensures c.number.ensures
    c.filling.ensures c.number-2.ensures)
