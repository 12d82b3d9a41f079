-- What the loop keeps is `Kept`.
use native.Mathlib.Omega.{arith}
use mathlib.Core.Path.{◌≡◌, ◌∙◌}
use lib.ListN.{length}
use Rattle.layout.proofs.Decoded.{slots-le}
use Rattle.promises.proofs.Fronts.{one-near, kept-stop, kept_more, kept-done}
use Rattle.promises.proofs.kept_front.Goals as goal

pub with-r-requires : goal.with-r-requires
with-r-requires g c =
    let field = c.field_of-f.ensures in
    (field.role, field.count, omega (arith, c.loop-i.invariant.0, c.requires.few), omega (arith, c.loop-i.invariant.1, c.requires.few))

pub returns-then-not-kept : goal.returns-then-not-kept
returns-then-not-kept g c =
    λ q j. kept-stop q _ _ (omega arith) _ _ (c.loop-i.invariant.2 q j)
    c.loop-i-test.true _ c.field_of-f.ensures _ c.with-r.ensures _ (j _ _ _ c.kept.ensures) c.if-not-kept.true

pub loop-i-preserved : goal.loop-i-preserved
loop-i-preserved g c =
    let near = one-near c.field_of-f.result.role c.field_of-f.result.count c.field_of-f.ensures.role c.field_of-f.ensures.count in
    let few = slots-le c.field_of-f.result in (
      rw c.with-r.ensures (omega (arith, c.loop-i.invariant.0, few)),
      rw c.with-r.ensures (omega (arith, c.loop-i.invariant.1, near)),
      λ q j. kept_more q _ _ (omega arith) _ _ (c.loop-i.invariant.2 q j)
          c.loop-i-test.true _ c.field_of-f.ensures _ c.with-r.ensures _ (j _ _ _ c.kept.ensures) c.if-not-kept.false,
    )

pub returns : goal.returns
returns g c =
    λ q j. let l : length c.args.codes.now ≡ c.loop-i.i = omega arith in
    l ∙ kept-done q _ _ (omega arith) _ _ (c.loop-i.invariant.2 q j) (omega arith)
