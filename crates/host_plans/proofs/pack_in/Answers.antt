-- The numbers are decoded, and packed by the fields of the plan.
use Rattle.host_plans.proofs.Calls.{decoded-ready, decoded-pack}
use Rattle.host_plans.proofs.pack_in.Goals as goal

pub pack-requires : goal.pack-requires
pack-requires g c = decoded-ready _ _ c.args.area.now _ _ c.decode.ensures c.requires.0

pub returns : goal.returns
returns g c = decoded-pack _ _ _ _ _ c.decode.ensures c.pack.ensures
