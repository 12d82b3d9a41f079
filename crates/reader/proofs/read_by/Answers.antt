-- Each way out is one law of the reading; what was tested on the way is its premise.
use lib.ListN.{length}
use native.Mathlib.Omega.{arith}
use mathlib.Core.Path.{sym, ◌∙◌}
use mathlib.Core.Bool.{false}
use Rattle.layout.proofs.Decoded.{parsed-fields, parsed-refused, learnt-front}
use Rattle.layout.proofs.Places.{refused-inside}
use Rattle.reader.proofs.checking.Calls.{Fit, fit, sizes-refuse, parse-refuses}
use Rattle.reader.proofs.passes.Calls.{surely-room, surely-put}
use Rattle.reader.proofs.Calls.{read-refused, ready, codes-read}
use Rattle.reader.proofs.read_by.Goals as goal

pub returns-then-not-sizes_fit : goal.returns-then-not-sizes_fit
returns-then-not-sizes_fit g c = rw c.refused.ensures (read-refused _ _ _ _ _ (sizes-refuse _ _ _ _ _ (sym c.sizes_fit.ensures ∙ c.if-not-sizes_fit.true)))

pub overflow_cast-e : goal.overflow_cast-e
overflow_cast-e g c =
    let sized : Fit (length c.args.layout.now) (length c.args.slots.now) (length c.args.bytes.now) (length c.args.area.now) c.args.mark = fit (sym c.sizes_fit.ensures ∙ c.if-not-sizes_fit.false) in
    omega (arith, sized.text, refused-inside false _ _ _ (parsed-refused _ _ _ _ c.parse.ensures c.in-Err.is))

pub returns-in-Err : goal.returns-in-Err
returns-in-Err g c =
    let sized : Fit (length c.args.layout.now) (length c.args.slots.now) (length c.args.bytes.now) (length c.args.area.now) c.args.mark = fit (sym c.sizes_fit.ensures ∙ c.if-not-sizes_fit.false) in
    rw c.refused-in-Err.ensures (read-refused _ _ _ _ _ (parse-refuses _ _ _ _ _ sized (parsed-refused _ _ _ _ c.parse.ensures c.in-Err.is)))

pub fill-requires-clause-table_room : goal.fill-requires-clause-table_room
fill-requires-clause-table_room g c =
    let sized : Fit (length c.args.layout.now) (length c.args.slots.now) (length c.args.bytes.now) (length c.args.area.now) c.args.mark = fit (sym c.sizes_fit.ensures ∙ c.if-not-sizes_fit.false) in
    let l = learnt-front (parsed-fields _ _ _ _ c.parse.ensures c.in-Ok.is) in
    surely-room (ready _ _ _ _ _ sized l) (sym c.surely_read.ensures ∙ c.if-surely_read.true)

pub returns-then-surely_read : goal.returns-then-surely_read
returns-then-surely_read g c =
    let sized : Fit (length c.args.layout.now) (length c.args.slots.now) (length c.args.bytes.now) (length c.args.area.now) c.args.mark = fit (sym c.sizes_fit.ensures ∙ c.if-not-sizes_fit.false) in
    let l = learnt-front (parsed-fields _ _ _ _ c.parse.ensures c.in-Ok.is) in
    codes-read _ _ _ _ _ sized l (surely-put (ready _ _ _ _ _ sized l) (sym c.surely_read.ensures ∙ c.if-surely_read.true) c.fill.ensures)

pub read_measured-requires : goal.read_measured-requires
read_measured-requires g c =
    let sized : Fit (length c.args.layout.now) (length c.args.slots.now) (length c.args.bytes.now) (length c.args.area.now) c.args.mark = fit (sym c.sizes_fit.ensures ∙ c.if-not-sizes_fit.false) in
    let l = learnt-front (parsed-fields _ _ _ _ c.parse.ensures c.in-Ok.is) in
    ready _ _ _ _ _ sized l

pub returns : goal.returns
returns g c =
    let sized : Fit (length c.args.layout.now) (length c.args.slots.now) (length c.args.bytes.now) (length c.args.area.now) c.args.mark = fit (sym c.sizes_fit.ensures ∙ c.if-not-sizes_fit.false) in
    let l = learnt-front (parsed-fields _ _ _ _ c.parse.ensures c.in-Ok.is) in
    codes-read _ _ _ _ _ sized l c.read_measured.ensures
