-- The bytes passed from the end are blanks, so what is left trims to the same; it ends in another byte, or is empty.
use Prim.Native.Nat.{◌+◌, ◌-◌}
use native.Mathlib.Omega.{arith}
use mathlib.Core.Path.{◌≡◌, sym, ◌∙◌}
use Rattle.text.proofs.TextLaws.{drop-blank, keep_all, none_left}
use Rattle.text.proofs.trimmed_len.Goals as goal

pub returns-then-not-is_blank : goal.returns-then-not-is_blank
returns-then-not-is_blank c =
    let i = c.loop-i.i in
    let a = c.args in
    let on : i - 1 + 1 ≡ i = omega arith in
    let other = sym c.is_blank.ensures ∙ c.if-not-is_blank.true in
    (omega arith, rw on (keep_all a.input.now a.at i (omega arith) (omega arith) other ∙ c.loop-i.invariant))

pub loop-i-preserved : goal.loop-i-preserved
loop-i-preserved c =
    let a = c.args in
    let blank = sym c.is_blank.ensures ∙ c.if-not-is_blank.false in
    sym (drop-blank a.input.now a.at c.loop-i.i (omega arith) (omega arith) blank) ∙ c.loop-i.invariant

pub returns : goal.returns
returns c =
    let a = c.args in
    let none : c.loop-i.i ≡ 0 = omega arith in
    (omega arith, none_left a.input.now a.at ∙ rw none at c.loop-i.invariant)
