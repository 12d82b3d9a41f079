-- What is left is the law of each answer of `fits`.
use native.Mathlib.Omega.{arith}
use Rattle.reader.proofs.checking.Calls.{fitting-place}
use Rattle.reader.proofs.passes.Calls.{unfit-left, fit-room, fit-put}
use Rattle.reader.proofs.passes.read_measured.Goals as goal

pub fill-requires-clause-table_room : goal.fill-requires-clause-table_room
fill-requires-clause-table_room c = fit-room c.requires c.fits.ensures c.in-Ok.is

pub overflow_cast-e : goal.overflow_cast-e
overflow_cast-e c = omega (arith, fitting-place _ _ _ _ c.fits.ensures c.in-Err.is)

pub returns-in-Ok : goal.returns-in-Ok
returns-in-Ok c = fit-put c.requires c.fits.ensures c.in-Ok.is c.fill.ensures

pub returns-in-Err : goal.returns-in-Err
returns-in-Err c = rw c.refused.ensures (unfit-left c.requires c.fits.ensures c.in-Err.is)
