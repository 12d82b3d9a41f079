-- The loop keeps that the blocks before number k are the same.

use Rattle.std.proofs.Common.{◌≡◌, refl, sym, ◌∙◌, arith, ◌+◌, ◌-◌, ◌*◌}
use Rattle.compare.specs.Difference.{same_bytes}
use Rattle.compare.proofs.difference.Runs.{block_same}
use Rattle.compare.proofs.difference.equal_blocks.Goals as goal

pub loop-k-init : goal.loop-k-init
unfolding same_bytes
loop-k-init c = refl

pub loop-k-preserved : goal.loop-k-preserved
loop-k-preserved c =
    let a = c.args in
    let k = c.loop-k.k in
    let next : 16 * (k + 1) ≡ 16 * k + (16 * k + 16 - 16 * k) = omega arith in
    rw next (block_same a.first.now a.second.now (16 * k) (16 * k + 16 - 16 * k) c.requires c.loop-k.invariant (sym c.same_bytes.ensures ∙ c.if-not-same_bytes.false))
