-- The layout is read once; what is left is `compare_codes`.
use lib.ListN.{length}
use native.Mathlib.Omega.{arith}
use mathlib.Core.Path.{sym, ◌∙◌}
use mathlib.Core.Bool.{false}
use Rattle.layout.proofs.Decoded.{parsed-fields, parsed-refused}
use Rattle.layout.proofs.Places.{refused-inside}
use Rattle.reader.proofs.checking.Calls.{Fit, fit, sizes-refuse, parse-refuses}
use Rattle.compare.proofs.Calls.{first-fails, opened}
use Rattle.compare.proofs.compare.Goals as goal

pub returns-then-not-sizes_fit : goal.returns-then-not-sizes_fit
returns-then-not-sizes_fit c =
    first-fails _ _ _ _ _ _ _ _ (sizes-refuse _ _ _ _ _ (sym c.sizes_fit.ensures ∙ c.if-not-sizes_fit.true)) c.refused.ensures

pub overflow_cast-e : goal.overflow_cast-e
overflow_cast-e c =
    let a = c.args in
    let f : Fit (length a.layout.now) (length a.first_slots.now) (length a.first.now) (length a.first_area.now) 0 = fit (sym c.sizes_fit.ensures ∙ c.if-not-sizes_fit.false) in
    omega (arith, f.text, refused-inside false _ _ _ (parsed-refused _ _ _ _ c.parse.ensures c.in-Err.is))

pub returns-in-Err : goal.returns-in-Err
returns-in-Err c =
    let a = c.args in
    let f : Fit (length a.layout.now) (length a.first_slots.now) (length a.first.now) (length a.first_area.now) 0 = fit (sym c.sizes_fit.ensures ∙ c.if-not-sizes_fit.false) in
    first-fails _ _ _ _ _ _ _ _ (parse-refuses _ _ _ _ _ f (parsed-refused _ _ _ _ c.parse.ensures c.in-Err.is)) c.refused-in-Err.ensures

pub compare_codes-requires : goal.compare_codes-requires
compare_codes-requires c =
    let a = c.args in
    let f : Fit (length a.layout.now) (length a.first_slots.now) (length a.first.now) (length a.first_area.now) 0 = fit (sym c.sizes_fit.ensures ∙ c.if-not-sizes_fit.false) in
    opened f (parsed-fields _ _ _ _ c.parse.ensures c.in-Ok.is)
