-- The steps over whole bytes, and after them those over single digits, are all of them or as many as the budget has.

use Rattle.std.proofs.Common.{◌≡◌, arith, length}
use Rattle.digits.specs.Steps.{showing, Advanced}
use Rattle.digits.proofs.StepLaws.{within-budget}
use Rattle.digits.proofs.load.load_steps.Goals as goal

pub returns : goal.returns
returns c =
    let a = c.args in
    let n = length a.shown.now in
    let kept : length c.show_run.new.shown ≡ n = omega arith in
    let rest : Advanced (showing a.high a.bytes.now 0 0) n c.min-eights.result c.min-all.result c.show_run.new.shown c.show_run-2.new.shown = rw kept at c.show_run-2.ensures in
    within-budget (showing a.high a.bytes.now 0 0) n a.budget c.min-all.result (omega arith) (λ bytes same. rest bytes (c.show_run.ensures bytes same))
