-- The letter, the flag and the digits make the item's text.
use Prim.Native.Nat.{◌+◌}
use native.Mathlib.Omega.{arith}
use mathlib.Core.Path.{sym, ◌∙◌}
use lib.Seq.{length-take-le}
use Rattle.perl.specs.Tokens.{max_template_count}
use Rattle.perl.proofs.items.Letters.{letter-unknown, letter-written, rest-is, rest-long, count-inside}
use Rattle.perl.proofs.items.single.Goals as goal

pub returns-in_default : goal.returns-in_default
returns-in_default c =
    letter-unknown c.args.text.now c.args.p c.args.to c.args.out.now (sym c.letter_of.ensures ∙ c.in_default.is)

pub slice_bounds-put-end : goal.slice_bounds-put-end
slice_bounds-put-end c =
    let text = c.args.text.now in
    let h = count-inside c.args.text.now (c.args.p + 1) max_template_count c.number-n.result.digits (omega arith) c.number-n.ensures.1 in
    sym (length-take-le _ _ (omega (arith, h, rest-long c.args.text.now (c.args.p + 1))))

pub overflow_add-result-2 : goal.overflow_add-result-2
overflow_add-result-2 c =
    let h = count-inside c.args.text.now (c.args.p + 1) max_template_count c.number-n.result.digits (omega arith) c.number-n.ensures.1 in
    record { fits = omega (arith, h) }

pub returns : goal.returns
returns c =
    let rest = rest-is c.args.text.now (c.args.p + 1) in
    letter-written c.args.text.now c.args.p c.args.to c.args.out.now (sym c.letter_of.ensures ∙ c.in-Some.is)
    (rw rest at c.number-n.ensures.1) (rw rest at c.put-end.ensures)
