-- What the loop keeps is `Writing`: writing the fields from here on gives what writing all of them gives.
use mathlib.Core.Path.{refl}
use Rattle.layout.proofs.Decoded.{code-told}
use Rattle.layout.proofs.Steps.{field_fits}
use Rattle.pack_store.proofs.writing.WriteLaws.{writing-none, writing-done, writing-ready, writing-next}
use Rattle.pack_store.proofs.writing.write.Goals as goal

pub loop-code-init : goal.loop-code-init
loop-code-init c = rw c.new-c.ensures (writing-none _ _ _ _ c.requires)

pub put-c-requires : goal.put-c-requires
put-c-requires c =
    writing-ready _ _ _ _ c.requires _ _ _ _ c.loop-code.invariant c.loop-code-test.true _ (field_fits _ _ (c.type_inv.codes _).fits refl)

pub loop-code-preserved : goal.loop-code-preserved
loop-code-preserved c =
    let told = code-told _ _ (c.type_inv.codes _).fits c.slots_in-k.ensures in
    writing-next _ _ _ _ c.requires _ _ _ _ c.loop-code.invariant c.loop-code-test.true _ told.field _ _ c.put-c.ensures c.put-c.auto.out _ told.taken

pub returns : goal.returns
returns c = writing-done _ _ _ _ c.requires _ _ _ _ c.loop-code.invariant c.loop-code-test.false
