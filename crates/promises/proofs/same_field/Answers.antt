-- The numbers of the types tell whether those agree, and what is above them whether flag and count do.
use mathlib.Core.Path.{sym, ◌∙◌}
use borrow.Author.Tests.{ne_eqb}
use Rattle.promises.proofs.Same.{types-differ, types_same}
use Rattle.promises.proofs.same_field.Goals as goal

pub returns-then-type_in : goal.returns-then-type_in
returns-then-type_in c = types_same _ _ (sym c.type_in.ensures ∙ c.if-type_in.true ∙ c.type_in-2.ensures)

pub returns-else-type_in : goal.returns-else-type_in
returns-else-type_in c =
    rw (ne_eqb c.type_in.result c.type_in-2.result c.if-type_in.false)
    (types-differ _ _ (λ e. c.if-type_in.false (c.type_in.ensures ∙ e ∙ sym c.type_in-2.ensures)))
