-- Number by number, in the order of the definition.
use native.Mathlib.Omega.{arith}
use mathlib.Core.Bool.{true}
use Rattle.layout.specs.Layout.{fields_of}
use Rattle.layout.specs.inside.Parsing.{decoded}
use Rattle.layout.proofs.Decoded.{Learnt, decoded-length, parsed-fields, parsed-refused, learnt-front}
use Rattle.layout.proofs.Places.{refused-inside}
use Rattle.describe.proofs.Calls.{slots-few, too_long, refused-fields, told}
use Rattle.describe.proofs.describe.Goals as goal

pub returns-then-layout-gt-MAX_LAYOUT : goal.returns-then-layout-gt-MAX_LAYOUT
returns-then-layout-gt-MAX_LAYOUT c = rw c.refused.ensures (too_long _ c.if-layout-gt-MAX_LAYOUT.true)

pub overflow_cast-e : goal.overflow_cast-e
overflow_cast-e c =
    let inside = refused-inside true c.args.layout.now _ _ (parsed-refused _ _ _ _ c.parse.ensures c.in-Err.is) in
    record { fits = omega (arith, inside, c.if-layout-gt-MAX_LAYOUT.false) }

pub returns-in-Err : goal.returns-in-Err
returns-in-Err c =
    rw c.refused-in-Err.ensures (refused-fields _ c.if-layout-gt-MAX_LAYOUT.false _ _ (parsed-refused _ _ _ _ c.parse.ensures c.in-Err.is))

pub least_length-length-requires : goal.least_length-length-requires
least_length-length-requires c =
    let l = learnt-front (parsed-fields _ _ _ _ c.parse.ensures c.in-Ok.is) in
    record { few = l.few; room = l.room; text = c.args.layout.now; fields = l.fields }

pub overflow_cast-f : goal.overflow_cast-f
overflow_cast-f c =
    let l : Learnt (fields_of true c.args.layout.now) c.in-Ok.f.count c.in-Ok.f.slots c.parse.new.codes = parsed-fields _ _ _ _ c.parse.ensures c.in-Ok.is in
    record { fits = omega (arith, l.taken, l.few, l.room, slots-few (decoded c.in-Ok.f.count c.parse.new.codes), decoded-length c.in-Ok.f.count c.parse.new.codes l.few) }

pub returns-in-Ok : goal.returns-in-Ok
returns-in-Ok c =
    let l = learnt-front (parsed-fields _ _ _ _ c.parse.ensures c.in-Ok.is) in
    rw c.accepted.ensures (told _ c.if-layout-gt-MAX_LAYOUT.false _ l.fields _ _ l.taken c.least_length-length.ensures)
