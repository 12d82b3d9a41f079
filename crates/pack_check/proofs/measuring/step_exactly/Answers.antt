-- The argument's check decides.
use mathlib.Core.Path.{◌≡◌, sym, ap, ◌∙◌}
use borrow.Author.Rules.{rules}
use Rattle.std.specs.declared.result.Result.TheVariants.{Ok, Err}
use Rattle.pack_check.specs.inside.measuring.{field_checked}
use Rattle.pack_check.proofs.measuring.MeasureLaws.{turn-next, turn-stop}
use Rattle.pack_check.proofs.measuring.step_exactly.Goals as goal

pub returns-in_err-check-in-Data : goal.returns-in_err-check-in-Data
unfolding field_checked
returns-in_err-check-in-Data c =
    let e = c.in_err-check-in-Data in
    let same : c.from_residual.result ≡ Err e.field-0.0 = search rules in
    same ∙ rw (c.in-Data.is, ← c.slot_at-a.ensures, turn-stop _ _ (sym e.was ∙ c.check.ensures))

pub returns-in_ok-check-in-Data : goal.returns-in_ok-check-in-Data
unfolding field_checked
returns-in_ok-check-in-Data c =
    let fine = turn-next _ _ (sym c.in_ok-check-in-Data.was ∙ c.check.ensures) in
    ap Ok c.store.ensures ∙ rw (c.in-Data.is, ← c.slot_at-a.ensures, fine, c.bytes_for-bytes.ensures, c.amount.ensures)

pub returns-in-Move : goal.returns-in-Move
unfolding field_checked
returns-in-Move c = rw c.in-Move.is (ap Ok c.moved.ensures)
