-- Number by number, in the order of the definition: each return is one law of it, for all fields that are so read.
use native.Mathlib.Omega.{arith}
use mathlib.Core.Path.{◌∙◌}
use lib.ListN.{length-take}
use Rattle.layout.proofs.Decoded.{parsed-fields, parsed-refused, decoded-front}
use Rattle.packer.proofs.WholeLaws.{pack-refused, pack-slots, pack-finish, other-slots, same-slots, read-sized}
use Rattle.packer.proofs.packed.Goals as goal

pub overflow_cast-e : goal.overflow_cast-e
overflow_cast-e c =
    let (size, o, j) = c.requires in
    omega (arith, (read-sized j).text, j.inside _ _ (parsed-refused _ _ _ _ j.parsed c.in-Err.is))

pub returns-in-Err : goal.returns-in-Err
returns-in-Err c size o j = rw c.refused.ensures (pack-refused _ _ _ _ _ j.fine _ _ (parsed-refused _ _ _ _ j.parsed c.in-Err.is))

pub returns-then-slots-f : goal.returns-then-slots-f
returns-then-slots-f c size o j =
    let l = parsed-fields _ _ _ _ j.parsed c.in-Ok.is in
    rw c.refused-then-slots-f.ensures (pack-slots _ _ _ _ _ j.fine _ l.fields (other-slots _ _ _ l.taken (λ e. omega (arith, c.if-slots-f.true))))

pub pack-requires : goal.pack-requires
pack-requires c =
    let (size, o, j) = c.requires in
    let l = parsed-fields _ _ _ _ j.parsed c.in-Ok.is in
    let m = read-sized j in (
      record {
        room = omega (arith, l.room, length-take c.in-Ok.f.count c.args.codes.now);
        slots = rw (← decoded-front c.in-Ok.f.count c.args.codes.now) (omega (arith, l.taken, c.if-slots-f.false));
        limit = m.lent.table;
      },
      m.whole,
    )

pub returns-else-slots-f : goal.returns-else-slots-f
returns-else-slots-f c size o j =
    let l = parsed-fields _ _ _ _ j.parsed c.in-Ok.is in
    c.pack.ensures
    ∙ rw (← decoded-front c.in-Ok.f.count c.args.codes.now)
    (pack-finish _ _ _ _ _ j.fine _ l.fields (same-slots _ _ _ l.taken (omega (arith, c.if-slots-f.false))))
