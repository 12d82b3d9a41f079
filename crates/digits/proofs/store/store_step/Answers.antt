-- Each arm sets just the byte that the step number k sets, to what it sets it to.

use Rattle.std.proofs.Common.{refl, ◌∙◌, arith, false, ◌+◌, ◌-◌, ◌*◌, ◌/◌}
use Rattle.record.proofs.Stores.{length_part}
use Rattle.digits.proofs.DigitLaws.{part-digits}
use Rattle.digits.proofs.bytes.DigitBytes.{next-part}
use Rattle.digits.proofs.store.StoredSteps.{whole-stored, digit-stored}
use Rattle.digits.proofs.store.store_step.Goals as goal

pub eight_byte-requires : goal.eight_byte-requires
eight_byte-requires c =
    let a = c.args in
    let there = c.requires.7 c.if-full.true in
    (length_part (8 * a.k + 8 - 8 * a.k) (8 * a.k) a.digits.now (omega arith) ∙ (omega arith), part-digits false a.digits.now (8 * a.k) (8 * a.k + 8 - 8 * a.k) c.requires.3)

pub returns-then-full : goal.returns-then-full
returns-then-full c =
    let a = c.args in
    let there = c.requires.7 c.if-full.true in
    whole-stored a.high a.digits.now a.at a.n a.k (omega arith) (c.eight_byte.ensures ∙ next-part false a.high a.digits.now (8 * a.k) (8 * a.k + 8) (omega arith)) refl

pub returns-then-eight : goal.returns-then-eight
returns-then-eight c =
    let a = c.args in
    whole-stored a.high a.digits.now a.at a.n a.k (c.requires.5 c.if-eight.true) c.next_byte.ensures refl

pub returns-else-eight : goal.returns-else-eight
returns-else-eight c =
    let a = c.args in
    let past = c.requires.6 c.if-eight.false in
    digit-stored a.high a.digits.now a.at a.n a.k (a.k - a.n / 8) c.requires.3 (omega arith) (omega arith) (omega arith) c.bit_at.ensures c.add_bit.ensures
