-- An old layout that is refused is refused so here; the rest is said of its fields.
use mathlib.Core.Path.{◌∙◌}
use Rattle.std.specs.declared.result.Result.TheVariants.{Ok, Err}
use Rattle.promises.specs.inside.Walk.{ReadAs}
use Rattle.promises.proofs.Calls.{extends-refused, extends-by}
use Rattle.promises.proofs.extends.Goals as goal

pub returns-in-Err : goal.returns-in-Err
returns-in-Err c =
    let bad : ReadAs c.args.old.now (Err c.in-Err.e) c.read_layout.new.codes = rw c.in-Err.is at c.read_layout.ensures in
    rw c.refused.ensures (extends-refused _ _ _ _ bad.0)

pub returns-in-Ok : goal.returns-in-Ok
returns-in-Ok c =
    let good : ReadAs c.args.old.now (Ok c.in-Ok.f) c.read_layout.new.codes = rw c.in-Ok.is at c.read_layout.ensures in
    c.extends_codes.ensures ∙ extends-by _ _ _ good.1
