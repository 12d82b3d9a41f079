-- Number by number, in the order of the definition: each return is one law of it.
use native.Mathlib.Omega.{arith}
use mathlib.Core.Path.{◌≡◌}
use mathlib.Core.Bool.{false}
use lib.ListN.{length, take}
use lib.Seq.{length-take-le}
use Rattle.layout.specs.Layout.{fields_of}
use Rattle.layout.proofs.Decoded.{Learnt, parsed-fields, parsed-refused, learnt-front}
use Rattle.layout.proofs.Places.{refused-inside}
use Rattle.describe.proofs.fields.Calls.{too_long, refused-fields, holds, no_room, told}
use Rattle.describe.proofs.fields.fields.Goals as goal

pub returns-then-layout-gt-MAX_LAYOUT : goal.returns-then-layout-gt-MAX_LAYOUT
returns-then-layout-gt-MAX_LAYOUT c = rw c.refused.ensures (too_long _ _ c.if-layout-gt-MAX_LAYOUT.true)

pub overflow_cast-e : goal.overflow_cast-e
overflow_cast-e c =
    let inside = refused-inside false c.args.layout.now _ _ (parsed-refused _ _ _ _ c.parse.ensures c.in-Err.is) in
    record { fits = omega (arith, inside, c.if-layout-gt-MAX_LAYOUT.false) }

pub returns-in-Err : goal.returns-in-Err
returns-in-Err c =
    rw c.refused-in-Err.ensures (refused-fields _ _ c.if-layout-gt-MAX_LAYOUT.false _ _ (parsed-refused _ _ _ _ c.parse.ensures c.in-Err.is))

pub returns-then-out-f : goal.returns-then-out-f
returns-then-out-f c =
    let l = parsed-fields _ _ _ _ c.parse.ensures c.in-Ok.is in
    rw c.refused-then-out-f.ensures (no_room _ _ _ _ (holds _ c.if-layout-gt-MAX_LAYOUT.false _ _ _ l) c.if-out-f.true)

pub put_rows-requires : goal.put_rows-requires
put_rows-requires c =
    let l : Learnt (fields_of false c.args.layout.now) c.in-Ok.f.count c.in-Ok.f.slots c.parse.new.codes = parsed-fields _ _ _ _ c.parse.ensures c.in-Ok.is in
    (holds _ c.if-layout-gt-MAX_LAYOUT.false _ _ _ (learnt-front l), omega (arith, length-take-le c.in-Ok.f.count c.parse.new.codes l.few))

pub returns-else-out-f : goal.returns-else-out-f
returns-else-out-f c =
    let l : Learnt (fields_of false c.args.layout.now) c.in-Ok.f.count c.in-Ok.f.slots c.parse.new.codes = parsed-fields _ _ _ _ c.parse.ensures c.in-Ok.is in
    let n : length (take c.in-Ok.f.count c.parse.new.codes) ≡ c.in-Ok.f.count = length-take-le c.in-Ok.f.count c.parse.new.codes l.few in
    rw c.accepted.ensures (rw n at (told _ _ _ _ (holds _ c.if-layout-gt-MAX_LAYOUT.false _ _ _ (learnt-front l)) (omega (arith, n)) _ c.put_rows.ensures))
