-- The loop keeps that the first k bytes of the field are in their place.

use Rattle.std.proofs.Common.{◌∙◌, arith, true, ◌*◌}
use Rattle.record.proofs.Stores.{put-more, put-done}
use Rattle.digits.proofs.DigitLaws.{checked}
use Rattle.digits.proofs.store.FieldBytes.{length-stored, byte-turn}
use Rattle.digits.proofs.store.store_hex.Goals as goal

pub next_byte-requires : goal.next_byte-requires
next_byte-requires c = (omega arith, rw c.min.ensures (checked true c.args.n c.args.given.now c.requires.2))

pub loop-k-preserved : goal.loop-k-preserved
loop-k-preserved c =
    let a = c.args in
    let l = c.loop-k in
    let long = length-stored true a.high a.n a.given.now in
    let byte = byte-turn true a.high a.given.now a.n (2 * l.k) l.k _ (omega arith) (omega arith) (c.next_byte.ensures ∙ rw c.min.ensures) in
    put-more l.invariant (omega arith) (omega arith) byte

pub returns : goal.returns
returns c =
    let a = c.args in
    let long = length-stored true a.high a.n a.given.now in
    put-done c.loop-k.invariant (omega arith)
