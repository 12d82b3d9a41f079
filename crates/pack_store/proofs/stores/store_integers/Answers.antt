-- The leaf loop stores the bytes of the slot's value.
use mathlib.Core.Path.{refl, ap, ◌∙◌}
use Rattle.record.specs.Bytes.{store_at}
use Rattle.pack_store.proofs.stores.StoreLaws.{integers-value}
use Rattle.pack_store.proofs.stores.store_integers.Goals as goal

pub returns : goal.returns
returns c = (refl, c.store.ensures ∙ ap (store_at c.args.out.now c.args.at) (integers-value _ _ _ _ _ _ _ c.requires))
