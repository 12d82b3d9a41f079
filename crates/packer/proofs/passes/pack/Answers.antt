-- The measuring pass decides; each return is one law of the definition.
use Prim.Native.Nat.{◌≤◌}
use native.Mathlib.Omega.{arith}
use mathlib.Core.Path.{sym, ◌∙◌}
use Rattle.packer.proofs.passes.Finish.{finish-refused, finish-full, finish-room, finish-done}
use Rattle.packer.proofs.passes.pack.Goals as goal

pub overflow_cast-e : goal.overflow_cast-e
overflow_cast-e c =
    let slot-number : c.in-Err.e.place ≤ 64 = rw c.in-Err.is at c.measure.ensures.small in omega arith

pub returns-then-output-len : goal.returns-then-output-len
returns-then-output-len c =
    rw c.refused-then-output-len.ensures (finish-full _ _ _ _ _ (sym c.in-Ok.is ∙ c.measure.ensures.same) c.if-output-len.true)

pub write-requires : goal.write-requires
write-requires c =
    record {
      prepared = c.requires.0;
      room = finish-room _ _ _ _ _ (sym c.in-Ok.is ∙ c.measure.ensures.same) c.if-output-len.false;
      limit = c.requires.1;
    }

pub returns-in-Err : goal.returns-in-Err
returns-in-Err c = rw c.refused.ensures (finish-refused _ _ _ _ _ (sym c.in-Err.is ∙ c.measure.ensures.same))

pub returns-else-output-len : goal.returns-else-output-len
returns-else-output-len c =
    rw c.accepted.ensures (finish-done _ _ _ _ _ (sym c.in-Ok.is ∙ c.measure.ensures.same) c.if-output-len.false _ c.write.ensures)
