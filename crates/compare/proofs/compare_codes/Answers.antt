-- Both checks are passed before the first store; each way out is one law of the definition.
use native.Mathlib.Omega.{arith}
use mathlib.Core.Path.{sym, ◌∙◌}
use lib.ListN.{length}
use Rattle.reader.proofs.checking.Calls.{Fit, fit, sizes-refuse, fitting-place}
use Rattle.compare.proofs.Calls.{codes-fail, codes-pass, codes-room, codes-left, read-holds, first-fails, second-fails, no_room, done}
use Rattle.compare.proofs.compare_codes.Goals as goal

pub overflow_cast-e : goal.overflow_cast-e
overflow_cast-e c =
    omega (arith, fitting-place _ _ _ _ c.fits.ensures c.in-Err.is)

pub returns-in-Err : goal.returns-in-Err
returns-in-Err c =
    let a = c.args in
    let o = c.requires in
    first-fails _ _ _ _ _ _ _ _ (codes-fail o a.first.now a.first_slots.now a.first_area.now o.sizes c.fits.ensures c.in-Err.is) c.refused.ensures

pub returns-then-not-sizes_fit : goal.returns-then-not-sizes_fit
returns-then-not-sizes_fit c =
    let a = c.args in
    let o = c.requires in
    second-fails _ _ _ _ _ _ _ _ (codes-pass o a.first.now a.first_slots.now a.first_area.now o.sizes c.fits.ensures c.in_default.is)
    (sizes-refuse _ _ _ _ _ (sym c.sizes_fit.ensures ∙ c.if-not-sizes_fit.true)) c.refused-then-not-sizes_fit.ensures

pub overflow_cast-e-in-Err-fits : goal.overflow_cast-e-in-Err-fits
overflow_cast-e-in-Err-fits c =
    omega (arith, fitting-place _ _ _ _ c.fits-2.ensures c.in-Err-fits.is)

pub returns-in-Err-fits : goal.returns-in-Err-fits
returns-in-Err-fits c =
    let a = c.args in
    let o = c.requires in
    second-fails _ _ _ _ _ _ _ _ (codes-pass o a.first.now a.first_slots.now a.first_area.now o.sizes c.fits.ensures c.in_default.is)
    (codes-fail o a.second.now a.second_slots.now a.second_area.now (sym c.sizes_fit.ensures ∙ c.if-not-sizes_fit.false) c.fits-2.ensures c.in-Err-fits.is) c.refused-in-Err-fits.ensures

pub returns-then-report-taken : goal.returns-then-report-taken
returns-then-report-taken c =
    let a = c.args in
    let o = c.requires in
    no_room _ _ _ _ _ _ _ _ (codes-pass o a.first.now a.first_slots.now a.first_area.now o.sizes c.fits.ensures c.in_default.is)
    (codes-pass o a.second.now a.second_slots.now a.second_area.now (sym c.sizes_fit.ensures ∙ c.if-not-sizes_fit.false) c.fits-2.ensures c.in_default-fits.is) c.if-report-taken.true c.refused-then-report-taken.ensures

pub fill-p-requires-clause-table_room : goal.fill-p-requires-clause-table_room
fill-p-requires-clause-table_room c =
    let a = c.args in
    let o = c.requires in
    codes-room o a.first.now a.first_slots.now a.first_area.now o.sizes c.fits.ensures c.in_default.is

pub fill-q-requires-clause-table_room : goal.fill-q-requires-clause-table_room
fill-q-requires-clause-table_room c =
    let a = c.args in
    let o = c.requires in
    codes-room o a.second.now a.second_slots.now a.second_area.now (sym c.sizes_fit.ensures ∙ c.if-not-sizes_fit.false) c.fits-2.ensures c.in_default-fits.is

pub invariant_of-first_side : goal.invariant_of-first_side
invariant_of-first_side c =
    let a = c.args in
    let o = c.requires in
    record { shows = read-holds (codes-pass o a.first.now a.first_slots.now a.first_area.now o.sizes c.fits.ensures c.in_default.is) (codes-left o a.first.now a.first_slots.now a.first_area.now o.sizes c.fits.ensures c.in_default.is c.fill-p.ensures) }

pub invariant_of-second_side : goal.invariant_of-second_side
invariant_of-second_side c =
    let a = c.args in
    let o = c.requires in
    record { shows = read-holds (codes-pass o a.second.now a.second_slots.now a.second_area.now (sym c.sizes_fit.ensures ∙ c.if-not-sizes_fit.false) c.fits-2.ensures c.in_default-fits.is) (codes-left o a.second.now a.second_slots.now a.second_area.now (sym c.sizes_fit.ensures ∙ c.if-not-sizes_fit.false) c.fits-2.ensures c.in_default-fits.is c.fill-q.ensures) }

pub overflow_cast-taken : goal.overflow_cast-taken
overflow_cast-taken c =
    let a = c.args in
    let o = c.requires in
    let f : Fit (length a.layout.now) (length a.first_slots.now) (length a.first.now) (length a.first_area.now) 0 = fit o.sizes in
    let p = codes-pass o a.first.now a.first_slots.now a.first_area.now o.sizes c.fits.ensures c.in_default.is in
    omega (arith, p.count, p.run.lent, f.table)

pub returns : goal.returns
returns c =
    let a = c.args in
    let o = c.requires in
    done _ _ _ _ _ _ _ _ (codes-pass o a.first.now a.first_slots.now a.first_area.now o.sizes c.fits.ensures c.in_default.is) (codes-pass o a.second.now a.second_slots.now a.second_area.now (sym c.sizes_fit.ensures ∙ c.if-not-sizes_fit.false) c.fits-2.ensures c.in_default-fits.is)
    (codes-left o a.first.now a.first_slots.now a.first_area.now o.sizes c.fits.ensures c.in_default.is c.fill-p.ensures)
    (codes-left o a.second.now a.second_slots.now a.second_area.now (sym c.sizes_fit.ensures ∙ c.if-not-sizes_fit.false) c.fits-2.ensures c.in_default-fits.is c.fill-q.ensures)
    c.if-report-taken.false c.write.ensures c.accepted.ensures
