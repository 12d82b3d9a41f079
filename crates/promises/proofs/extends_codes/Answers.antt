-- A new layout that is refused is refused so here; one that is read is held against the old fields.
use Rattle.std.specs.declared.result.Result.TheVariants.{Ok, Err}
use Rattle.promises.specs.inside.Walk.{ReadAs}
use Rattle.promises.proofs.Calls.{by-refused, by-grown}
use Rattle.promises.proofs.extends_codes.Goals as goal

pub returns-in-Err : goal.returns-in-Err
returns-in-Err c =
    let bad : ReadAs c.args.new.now (Err c.in-Err.e) c.read_layout.new.codes = rw c.in-Err.is at c.read_layout.ensures in
    rw c.refused.ensures (by-refused _ _ _ _ bad.0)

pub returns-in-Ok : goal.returns-in-Ok
returns-in-Ok c =
    let good : ReadAs c.args.new.now (Ok c.in-Ok.f) c.read_layout.new.codes = rw c.in-Ok.is at c.read_layout.ensures in
    by-grown _ _ _ good.1 _ c.grown.ensures
