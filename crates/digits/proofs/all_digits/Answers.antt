-- The loop keeps in `good` whether all before the next are digits.

use Rattle.std.proofs.Common.{refl, sym, add-one}
use Rattle.record.specs.Packing.{all_digits}
use Rattle.digits.proofs.DigitLaws.{all_more}
use Rattle.digits.proofs.all_digits.Goals as goal

pub loop-c-init : goal.loop-c-init
unfolding all_digits
loop-c-init c = refl

pub loop-c-preserved : goal.loop-c-preserved
loop-c-preserved c =
    rw (c.loop-c.invariant, c.is_digit-good.ensures, add-one) (sym (all_more c.args.hex c.args.chars.now c.loop-c.c-index c.loop-c-test.true))
