-- A layout that is refused is refused so here; of one that is read the three places are told.
use Rattle.std.specs.declared.result.Result.TheVariants.{Ok, Err}
use Rattle.promises.specs.Promises.{grows, keeps, joins}
use Rattle.promises.specs.inside.Walk.{ReadAs}
use Rattle.promises.proofs.Calls.{promises-refused, promises-told}
use Rattle.promises.proofs.promises.Goals as goal

pub place_number-requires : goal.place_number-requires
place_number-requires c = (c.first_break.ensures grows (λ r f b e. e.2)).short

pub place_number-requires-in-Ok : goal.place_number-requires-in-Ok
place_number-requires-in-Ok c = (c.first_break-in-Ok.ensures keeps (λ r f b e. e.2)).short

pub place_number-requires-in-Ok-2 : goal.place_number-requires-in-Ok-2
place_number-requires-in-Ok-2 c = (c.first_break-in-Ok-2.ensures joins (λ r f b e. e.2)).short

pub returns-in-Err : goal.returns-in-Err
returns-in-Err c =
    let bad : ReadAs c.args.layout.now (Err c.in-Err.e) c.read_layout.new.codes = rw c.in-Err.is at c.read_layout.ensures in
    rw c.refused.ensures (promises-refused _ _ _ bad.0)

pub returns-in-Ok : goal.returns-in-Ok
returns-in-Ok c =
    let good : ReadAs c.args.layout.now (Ok c.in-Ok.f) c.read_layout.new.codes = rw c.in-Ok.is at c.read_layout.ensures in
    rw (c.accepted.ensures, c.place_number.ensures, c.place_number-in-Ok.ensures, c.place_number-in-Ok-2.ensures)
    (promises-told _ _ good.1 (c.first_break.ensures grows (λ r f b e. e.2)) (c.first_break-in-Ok.ensures keeps (λ r f b e. e.2))
    (c.first_break-in-Ok-2.ensures joins (λ r f b e. e.2)))
