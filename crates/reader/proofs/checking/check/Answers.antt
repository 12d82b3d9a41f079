-- Each way out is one law of the reading; what was tested on the way is its premise.
use lib.ListN.{length}
use native.Mathlib.Omega.{arith}
use mathlib.Core.Path.{sym, ◌∙◌}
use mathlib.Core.Bool.{false}
use Rattle.layout.proofs.Decoded.{parsed-fields, parsed-refused, learnt-front}
use Rattle.layout.proofs.Places.{refused-inside}
use Rattle.reader.proofs.checking.Calls.{Fit, fit, fitting-place, check-refused, check-accepted, sizes-refuse, parse-refuses, fits-refuse, fits-accept}
use Rattle.reader.proofs.checking.check.Goals as goal

pub returns-then-not-sizes_fit : goal.returns-then-not-sizes_fit
returns-then-not-sizes_fit c = check-refused _ _ _ _ _ (sizes-refuse _ _ _ _ _ (sym c.sizes_fit.ensures ∙ c.if-not-sizes_fit.true)) c.refused.ensures

pub overflow_cast-e : goal.overflow_cast-e
overflow_cast-e c =
    let sized : Fit (length c.args.layout.now) (length c.args.slots.now) (length c.args.bytes.now) (length c.args.area.now) c.args.mark = fit (sym c.sizes_fit.ensures ∙ c.if-not-sizes_fit.false) in
    omega (arith, sized.text, refused-inside false _ _ _ (parsed-refused _ _ _ _ c.parse.ensures c.in-Err.is))

pub returns-in-Err : goal.returns-in-Err
returns-in-Err c =
    let sized : Fit (length c.args.layout.now) (length c.args.slots.now) (length c.args.bytes.now) (length c.args.area.now) c.args.mark = fit (sym c.sizes_fit.ensures ∙ c.if-not-sizes_fit.false) in
    check-refused _ _ _ _ _ (parse-refuses _ _ _ _ _ sized (parsed-refused _ _ _ _ c.parse.ensures c.in-Err.is)) c.refused-in-Err.ensures

pub overflow_cast-fields : goal.overflow_cast-fields
overflow_cast-fields c =
    let sized : Fit (length c.args.layout.now) (length c.args.slots.now) (length c.args.bytes.now) (length c.args.area.now) c.args.mark = fit (sym c.sizes_fit.ensures ∙ c.if-not-sizes_fit.false) in
    let l = learnt-front (parsed-fields _ _ _ _ c.parse.ensures c.in-Ok.is) in
    omega (arith, (fits-accept _ _ _ _ _ sized l c.fits.ensures c.in-Ok-fits.is).1, sized.table)

pub overflow_cast-e-in-Err-fits : goal.overflow_cast-e-in-Err-fits
overflow_cast-e-in-Err-fits c = omega (arith, fitting-place _ _ _ _ c.fits.ensures c.in-Err-fits.is)

pub returns-in-Ok-fits : goal.returns-in-Ok-fits
returns-in-Ok-fits c =
    let sized : Fit (length c.args.layout.now) (length c.args.slots.now) (length c.args.bytes.now) (length c.args.area.now) c.args.mark = fit (sym c.sizes_fit.ensures ∙ c.if-not-sizes_fit.false) in
    let l = learnt-front (parsed-fields _ _ _ _ c.parse.ensures c.in-Ok.is) in
    check-accepted _ _ _ _ _ l (fits-accept _ _ _ _ _ sized l c.fits.ensures c.in-Ok-fits.is).0 c.accepted.ensures

pub returns-in-Err-fits : goal.returns-in-Err-fits
returns-in-Err-fits c =
    let sized : Fit (length c.args.layout.now) (length c.args.slots.now) (length c.args.bytes.now) (length c.args.area.now) c.args.mark = fit (sym c.sizes_fit.ensures ∙ c.if-not-sizes_fit.false) in
    let l = learnt-front (parsed-fields _ _ _ _ c.parse.ensures c.in-Ok.is) in
    check-refused _ _ _ _ _ (fits-refuse _ _ _ _ _ sized l c.fits.ensures c.in-Err-fits.is) c.refused-in-Err-fits.ensures
