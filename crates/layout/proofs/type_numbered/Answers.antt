-- The ranges are the tests of the definition, in its order.
use native.Mathlib.Omega.{arith}
use borrow.Author.Tests.{le-leb, lt-leb, ne_eqb}
use Rattle.layout.specs.Codes.{last_text, last_digits, last_integers, last_data, skip_number, back_number, goto_number, type_numbered}
use Rattle.layout.proofs.Numbered.{move-type}
use Rattle.layout.proofs.type_numbered.Goals as goal

pub returns-in-0-to-1 : goal.returns-in-0-to-1
unfolding type_numbered
returns-in-0-to-1 c = rw (le-leb c.args.k last_text (omega arith))

pub returns-in-0-to-5 : goal.returns-in-0-to-5
unfolding type_numbered
returns-in-0-to-5 c = rw (lt-leb c.args.k last_text (omega arith), le-leb c.args.k last_digits (omega arith))

pub returns-in-0-to-13 : goal.returns-in-0-to-13
unfolding type_numbered
returns-in-0-to-13 c = rw (lt-leb c.args.k last_text (omega arith), lt-leb c.args.k last_digits (omega arith), le-leb c.args.k last_integers (omega arith), c.width.ensures)

pub returns-in-0-to-17 : goal.returns-in-0-to-17
unfolding type_numbered
returns-in-0-to-17 c =
    rw (lt-leb c.args.k last_text (omega arith), lt-leb c.args.k last_digits (omega arith), lt-leb c.args.k last_integers (omega arith), le-leb c.args.k last_data (omega arith))

pub returns-in-24 : goal.returns-in-24
unfolding type_numbered
returns-in-24 c = rw c.in-24.is

pub returns-in-25 : goal.returns-in-25
unfolding type_numbered
returns-in-25 c = rw c.in-25.is

pub returns-in-26 : goal.returns-in-26
unfolding type_numbered
returns-in-26 c = rw c.in-26.is

pub returns-in_default : goal.returns-in_default
returns-in_default c =
    rw (
      move-type c.args.k (omega arith),
      ne_eqb c.args.k skip_number (λ e. omega arith),
      ne_eqb c.args.k back_number (λ e. omega arith),
      ne_eqb c.args.k goto_number (λ e. omega arith),
    )
