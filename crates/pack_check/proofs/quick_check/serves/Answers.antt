-- A test in front has passed where a later one is made; and where all pass, no line of the exact check is due.
use native.Mathlib.Omega.{arith}
use mathlib.Core.Path.{◌≡◌, sym, ◌∙◌}
use mathlib.Core.Bool.{true}
use borrow.Author.Tests.{eqb-true, ne_eqb}
use lib.ListN.{length}
use Rattle.record.specs.Table.{string, is_integers, real}
use Rattle.record.specs.Slots.{is_inside}
use Rattle.pack_check.proofs.quick_check.QuickLaws.{untrue, integers-serve, reals-serve, text-serves, digits-serve}
use Rattle.pack_check.proofs.quick_check.serves.Goals as goal
use Rattle.pack_check.proofs.quick_check.serves.Goals.{then-a-eq-STRING, else-a-eq-STRING, then-is_integers, else-is_integers, then-a-eq-REAL, else-a-eq-REAL, then-is_inside-3, else-is_inside-3}

pub returns-then-d-le-LAST_TEXT : goal.returns-then-d-le-LAST_TEXT
returns-then-d-le-LAST_TEXT c =
    let passed : (c.args.a.kind ≡ string) × (is_inside c.args.a (length c.args.area.now) ≡ true) =
    elim c.if-a-eq-STRING.branch [
      | then-a-eq-STRING w ↦ (w.if-a-eq-STRING.true, sym w.is_inside.ensures ∙ sym w.value-is ∙ c.if-is_inside.true)
      | else-a-eq-STRING w ↦ untrue (sym (ne_eqb _ _ w.if-a-eq-STRING.false) ∙ sym w.value-is ∙ c.if-is_inside.true)
    ] in
    λ n same. text-serves _ n c.args.a passed.1 _ same passed.0 _ c.if-d-le-LAST_TEXT.true _

pub returns-else-d-le-LAST_TEXT : goal.returns-else-d-le-LAST_TEXT
returns-else-d-le-LAST_TEXT c =
    let passed : (c.args.a.kind ≡ string) × (is_inside c.args.a (length c.args.area.now) ≡ true) =
    elim c.if-a-eq-STRING.branch [
      | then-a-eq-STRING w ↦ (w.if-a-eq-STRING.true, sym w.is_inside.ensures ∙ sym w.value-is ∙ c.if-is_inside.true)
      | else-a-eq-STRING w ↦ untrue (sym (ne_eqb _ _ w.if-a-eq-STRING.false) ∙ sym w.value-is ∙ c.if-is_inside.true)
    ] in
    λ n same. digits-serve _ n c.args.a passed.1 _ same passed.0 _ c.if-d-le-LAST_TEXT.false (omega arith) _ c.are_digits.ensures

pub returns-then-is_inside-2 : goal.returns-then-is_inside-2
returns-then-is_inside-2 c =
    let passed : (is_integers c.args.a.kind ≡ true) × (is_inside c.args.a (length c.args.area.now) ≡ true) =
    elim c.if-is_integers.branch [
      | then-is_integers w ↦ (sym c.is_integers.ensures ∙ w.if-is_integers.true, sym w.is_inside-then-is_integers.ensures ∙ sym w.value-is ∙ c.if-is_inside-2.true)
      | else-is_integers w ↦ untrue (sym w.if-is_integers.false ∙ sym w.value-is ∙ c.if-is_inside-2.true)
    ] in
    λ n same. integers-serve _ n c.args.a passed.1 _ same _ (omega arith) (omega arith) passed.0 _ (eqb-true _ _)

pub returns-then-items-a : goal.returns-then-items-a
returns-then-items-a c =
    let equal : (c.if-a-eq-REAL.value ≡ true) × (c.args.items ≡ c.args.a.len) =
    elim c.if-is_inside-3.branch [
      | then-is_inside-3 w ↦ (w.if-is_inside-3.true, eqb-true _ _ (sym w.value-is ∙ c.if-items-a.true))
      | else-is_inside-3 w ↦ untrue (sym w.if-is_inside-3.false ∙ sym w.value-is ∙ c.if-items-a.true)
    ] in
    let passed : (c.args.a.kind ≡ real) × (is_inside c.args.a (length c.args.area.now) ≡ true) =
    elim c.if-a-eq-REAL.branch [
      | then-a-eq-REAL w ↦ (w.if-a-eq-REAL.true, sym w.is_inside-then-a-eq-REAL.ensures ∙ sym w.value-is ∙ equal.0)
      | else-a-eq-REAL w ↦ untrue (sym (ne_eqb _ _ w.if-a-eq-REAL.false) ∙ sym w.value-is ∙ equal.0)
    ] in
    λ n same. reals-serve _ n c.args.a passed.1 _ same _ (omega arith) c.requires passed.0 equal.1 _ c.singles_fit.ensures
