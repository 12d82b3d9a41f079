-- What the loop keeps is `Clearing`: the first i slots from number k on are cleared.
use Rattle.rescue.proofs.fill.Clearing.{clearing-none, clearing-done, clearing-more}
use Rattle.rescue.proofs.fill.clear.Goals as goal

pub loop-i-init : goal.loop-i-init
loop-i-init c = clearing-none _ _ _

pub loop-i-preserved : goal.loop-i-preserved
loop-i-preserved c = clearing-more c.loop-i.invariant c.requires c.loop-i-test.true _ c.set_slot.ensures

pub returns : goal.returns
returns c = clearing-done c.loop-i.invariant c.loop-i-test.false
