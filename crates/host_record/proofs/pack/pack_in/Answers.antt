-- The numbers are decoded, and the call on numbers packs them.
use Rattle.host_record.proofs.pack.Calls.{packed}
use Rattle.host_record.proofs.pack.pack_in.Goals as goal

pub returns-then-this-ne0 : goal.returns-then-this-ne0
returns-then-this-ne0 g c =
    packed _ _ _ _ c.decode.ensures c.pack_short.ensures

pub returns : goal.returns
returns g c =
    packed _ _ _ _ c.decode.ensures c.pack.ensures
