-- In either base the bytes that are stored are those of the slot's value.
use Rattle.pack_store.proofs.stores.StoreLaws.{digits-asks}
use Rattle.pack_store.proofs.stores.store_digits.Goals as goal

pub store_hex-requires : goal.store_hex-requires
store_hex-requires c = rw c.bytes_of-given.ensures (digits-asks _ _ _ _ _ _ _ (rw c.if-hex.true at c.requires))

pub returns-then-hex : goal.returns-then-hex
returns-then-hex c = rw (c.if-hex.true, ← c.bytes_of-given.ensures) (c.bytes_for.ensures, c.store_hex.ensures)

pub store_binary-requires : goal.store_binary-requires
store_binary-requires c = rw c.bytes_of-given.ensures (digits-asks _ _ _ _ _ _ _ (rw c.if-hex.false at c.requires))

pub returns : goal.returns
returns c = rw (c.if-hex.false, ← c.bytes_of-given.ensures) (c.bytes_for-2.ensures, c.store_binary.ensures.effect)
