-- The arms are the clauses of the definition `advance`; what a count asks for is far below the width of a `usize`.
use mathlib.Core.Path.{◌∙◌}
use native.Mathlib.Omega.{arith}
use Rattle.layout.specs.declared.Role.TheVariants.{Data}
use Rattle.layout.specs.inside.Parsing.{FitRole}
use Rattle.record.proofs.Moves.{amount-small}
use Rattle.record.proofs.Bounds.{bytes_small}
use Rattle.describe.proofs.step.Goals as goal

pub bytes_for-requires : goal.bytes_for-requires
bytes_for-requires c =
    let fit : FitRole (Data c.in-Data.s) = rw c.in-Data.is at c.requires.0 in
    (omega (arith, c.amount.ensures, amount-small c.args.n 0 c.requires.1), fit)

pub store-requires : goal.store-requires
store-requires c =
    let fit : FitRole (Data c.in-Data.s) = rw c.in-Data.is at c.requires.0 in
    omega (
      arith,
      c.bytes_for.ensures,
      c.amount.ensures,
      amount-small c.args.n 0 c.requires.1,
      bytes_small c.in-Data.s c.amount.result (fit),
      c.requires.2,
    )

pub returns-in-Data : goal.returns-in-Data
returns-in-Data c =
    rw c.in-Data.is (c.store.ensures ∙ rw (c.bytes_for.ensures, c.amount.ensures))

pub returns-in-Move : goal.returns-in-Move
returns-in-Move c = rw c.in-Move.is c.moved.ensures
