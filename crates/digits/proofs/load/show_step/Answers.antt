-- Each arm writes just what the step number k writes.

use Rattle.std.proofs.Common.{◌≡◌, ap, ◌∙◌, arith, false, ◌+◌, ◌-◌, ◌*◌, ◌/◌, length}
use Rattle.record.specs.Bytes.{store_at}
use Rattle.digits.proofs.chars.CharLaws.{length-chars}
use Rattle.digits.proofs.load.ShownSteps.{eight-shown, digit-shown}
use Rattle.byte_runs.proofs.ByteLaws.{put-part}
use Rattle.digits.proofs.load.show_step.Goals as goal

pub returns-then-eight : goal.returns-then-eight
returns-then-eight c =
    let a = c.args in
    let eight = c.write_eight.ensures in
    let long : length c.write_eight.new.eight ≡ 8 * a.k + 8 - 8 * a.k = ap length eight ∙ length-chars false a.high _ ∙ (omega arith) in
    eight-shown a.high a.bytes.now (length a.shown.now) a.k (c.requires.2 c.if-eight.true) (put-part _ _ a.shown.now _ long ∙ ap (store_at a.shown.now (8 * a.k)) eight)

pub returns-else-eight : goal.returns-else-eight
returns-else-eight c =
    let a = c.args in
    let n = length a.shown.now in
    let past = c.requires.3 c.if-eight.false in
    digit-shown a.high a.bytes.now n a.k (a.k - n / 8) (omega arith) (omega arith) (omega arith) (rw c.char_at.ensures)
