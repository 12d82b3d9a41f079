-- The letter, the flag and the digits stand side by side.
use native.Mathlib.Omega.{arith}
use mathlib.Core.Path.{◌≡◌, refl, ◌∙◌}
use mathlib.Core.List.{◌∷◌}
use lib.ListN.{length-set}
use Rattle.record.specs.Bytes.{store_at}
use Rattle.record.proofs.Stores.{put-none, put-more, put-done}
use Rattle.perl.specs.Writing.{flag_text}
use Rattle.perl.proofs.items.Blocks.{one_byte, two_bytes, put_whole}
use Rattle.perl.proofs.items.put.Goals as goal
use Rattle.perl.proofs.items.put.Goals.{then-letter, else-letter}

pub loop-i-init : goal.loop-i-init
loop-i-init c = put-none

pub loop-i-preserved : goal.loop-i-preserved
loop-i-preserved c =
    put-more c.loop-i.invariant (omega (arith, c.if-letter.auto.out, length-set c.args.out.now c.in_ok-to.to c.args.letter.byte)) c.loop-i-test.true refl

pub returns : goal.returns
returns c =
    let a = c.args in
    let head : c.if-letter.out ≡ store_at a.out.now c.in_ok-to.to (a.letter.byte ∷ flag_text a.letter.unsigned) = elim c.if-letter.branch [
      | then-letter w ↦ (
          let one : c.from.result ≡ 1 = rw w.if-letter.true at c.from.ensures in
          rw w.if-letter.true (w.out-is ∙ two_bytes a.out.now c.in_ok-to.to a.letter.byte 117 (omega (arith, one)))
          )
      | else-letter w ↦ rw w.if-letter.false (w.out-is ∙ one_byte a.out.now c.in_ok-to.to a.letter.byte (omega arith))
    ] in
    rw c.in_ok-to.was
    (put_whole a.out.now a.digits.now c.in_ok-to.to a.letter.byte a.letter.unsigned c.requires.1 c.from.result c.from.ensures
    c.if-end-gt-MAX_LAYOUT.false head (put-done c.loop-i.invariant (omega (arith, c.loop-i.auto.i-end))))
