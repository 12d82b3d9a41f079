-- What the loop keeps is `Storing`: the entries so far stand after the header.
use Rattle.sheet_write.proofs.store.Writing.{storing-none, storing-done, storing-room, storing-more}
use Rattle.sheet_write.proofs.store.put_body.Goals as goal

pub loop-k-init : goal.loop-k-init
loop-k-init c = rw c.header-at.ensures.0 (storing-none _ _ _ _ c.requires.fits)

pub put_entry-at-requires : goal.put_entry-at-requires
put_entry-at-requires c = storing-room _ _ _ _ _ _ _ c.requires c.loop-k.invariant c.loop-k-test.true _ c.slot_at.ensures

pub loop-k-preserved : goal.loop-k-preserved
loop-k-preserved c = storing-more _ _ _ _ _ _ _ c.requires c.loop-k.invariant c.loop-k-test.true _ c.slot_at.ensures _ _ c.put_entry-at.ensures

pub returns : goal.returns
returns c = storing-done _ _ _ _ _ _ _ c.loop-k.invariant c.loop-k-test.false
