-- The answer is that of the call on the layout, told to the host.
use Rattle.host_layout.specs.Theorems.{curlew_promises}
use Rattle.host_layout.proofs.theorems.promises.Goals as goal

pub returns : goal.returns
unfolding curlew_promises
returns c = rw (← c.promises.ensures) c.tell.ensures
