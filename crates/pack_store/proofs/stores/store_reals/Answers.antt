-- The leaf loop stores the bytes of the slot's value.
use mathlib.Core.Path.{ap, ◌∙◌}
use Rattle.record.specs.Bytes.{store_at}
use Rattle.pack_store.proofs.stores.StoreLaws.{reals-value}
use Rattle.pack_store.proofs.stores.store_reals.Goals as goal

pub returns : goal.returns
returns c =
    (rw c.real_size.ensures, c.store.ensures ∙ ap (store_at c.args.out.now c.args.at) (reals-value _ _ _ _ _ _ _ c.requires))
