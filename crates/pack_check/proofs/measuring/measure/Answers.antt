-- What the loop keeps is `Measuring`: the pass from here on gives what the pass from the start gives.
use mathlib.Core.Path.{◌≡◌, refl, sym, ◌∙◌}
use borrow.Author.Rules.{rules}
use Rattle.std.specs.declared.result.Result.TheVariants.{Err}
use Rattle.layout.proofs.Decoded.{code-told}
use Rattle.layout.proofs.Steps.{field_fits}
use Rattle.pack_check.proofs.measuring.MeasureLaws.{measuring-none, measuring-done, measuring-ready, measuring-stop, measuring-next}
use Rattle.pack_check.proofs.measuring.measure.Goals as goal

pub loop-code-init : goal.loop-code-init
loop-code-init c = rw c.new-c.ensures (measuring-none _ _ _ c.requires)

pub step-requires : goal.step-requires
step-requires c = measuring-ready _ _ _ c.requires _ _ _ c.loop-code.invariant c.loop-code-test.true _ (field_fits _ _ (c.type_inv.codes _).fits refl)

pub returns-in_err-c : goal.returns-in_err-c
returns-in_err-c c =
    let e = c.in_err-c in
    let same : c.from_residual.result ≡ Err e.field-0.0 = search rules in
    let field = field_fits _ _ (c.type_inv.codes _).fits refl in
    rw same (measuring-stop _ _ _ c.requires _ _ _ c.loop-code.invariant c.loop-code-test.true _ field _ (sym e.was ∙ c.step.ensures))

pub loop-code-preserved : goal.loop-code-preserved
loop-code-preserved c =
    let told = code-told _ _ (c.type_inv.codes _).fits c.slots_in-k.ensures in
    measuring-next _ _ _ c.requires _ _ _ c.loop-code.invariant c.loop-code-test.true _ told.field _ (sym c.in_ok-c.was ∙ c.step.ensures)
    (λ j. (c.type_inv.slots j).fits) _ told.taken

pub returns : goal.returns
returns c = measuring-done _ _ _ c.requires _ _ _ c.loop-code.invariant c.loop-code-test.false
