-- The loop keeps that the characters of the first k bytes are in their place.

use Rattle.std.proofs.Common.{◌≡◌, refl, arith, true, ◌+◌, ◌*◌, ◌/◌, length}
use Rattle.record.proofs.Stores.{Put, put-none}
use Rattle.digits.proofs.load.DigitChars.{shown_chars, hex-more, hex-done}
use Rattle.digits.proofs.load.load_hex.Goals as goal

pub loop-k-init : goal.loop-k-init
loop-k-init c = put-none

pub loop-k-preserved : goal.loop-k-preserved
loop-k-preserved c =
    let a = c.args in
    let l = c.loop-k in
    let next : 2 * (l.k + 1) ≡ 2 * l.k + 1 + 1 = omega arith in
    let one = hex-more a.high a.bytes.now a.shown.now l.k 0 (2 * l.k) c.requires (omega arith) (omega arith) (omega arith) (omega arith) l.invariant c.char_at.ensures in
    rw next (hex-more a.high a.bytes.now a.shown.now l.k 1 (2 * l.k + 1) c.requires (omega arith) (omega arith) refl (omega arith) one c.char_at-in-loop-k.ensures)

pub returns-then-shown-eq1 : goal.returns-then-shown-eq1
returns-then-shown-eq1 c = λ u.
    let a = c.args in
    let n = length a.shown.now in
    let pairs : 2 * c.loop-k.k ≡ 2 * (n / 2) = omega arith in
    let so-far : Put a.shown.now 0 (shown_chars true a.high n a.bytes.now) c.loop-k.shown (2 * (n / 2)) = rw pairs at c.loop-k.invariant in
    let last = hex-more a.high a.bytes.now a.shown.now (n / 2) 0 (2 * (n / 2)) c.requires (omega arith) (omega arith) (omega arith) (omega arith) so-far c.char_at-then-shown-eq1.ensures in
    hex-done a.high u a.bytes.now a.shown.now _ (2 * (n / 2) + 1) c.requires (omega arith) last

pub returns-else-shown-eq1 : goal.returns-else-shown-eq1
returns-else-shown-eq1 c = λ u.
    let a = c.args in
    hex-done a.high u a.bytes.now a.shown.now c.loop-k.shown (2 * c.loop-k.k) c.requires (omega arith) c.loop-k.invariant
