-- The answer is that of the call on the layouts, told to the host.
use Rattle.host_layout.specs.Theorems.{curlew_extends}
use Rattle.host_layout.proofs.theorems.extends.Goals as goal

pub returns : goal.returns
unfolding curlew_extends
returns c = rw (← c.extends.ensures) c.tell.ensures
