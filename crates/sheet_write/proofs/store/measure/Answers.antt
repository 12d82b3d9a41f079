-- What the loop keeps is `Sizing`: the slots before k fit, and the header with their entries takes `size` bytes.
use Rattle.std.proofs.Common.{arith, sym, ◌∙◌}
use Rattle.sheet_write.proofs.store.Writing.{sizing-none, sizing-done, sizing-bad, sizing-more}
use Rattle.sheet_write.proofs.store.measure.Goals as goal

pub loop-k-init : goal.loop-k-init
loop-k-init c = rw c.header-header.ensures.0 (sizing-none _ _ _)

pub returns-then-not-slot_fits : goal.returns-then-not-slot_fits
returns-then-not-slot_fits c =
    sizing-bad _ _ _ _ _ c.loop-k.invariant c.loop-k-test.true _ c.slot_at-a.ensures (sym c.slot_fits.ensures ∙ c.if-not-slot_fits.true) c.refused.ensures

pub loop-k-preserved : goal.loop-k-preserved
loop-k-preserved c =
    rw c.header-header.ensures.0
    (sizing-more _ _ _ _ _ c.loop-k.invariant c.loop-k-test.true _ c.slot_at-a.ensures (sym c.slot_fits.ensures ∙ c.if-not-slot_fits.false) c.requires.1 _ c.value_size.ensures)

pub returns : goal.returns
returns c =
    let inv = c.loop-k.invariant in
    sizing-done _ _ _ _ _ inv c.loop-k-test.false (omega (arith, inv.small, inv.within, c.requires.0))
