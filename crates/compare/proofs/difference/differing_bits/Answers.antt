-- The sum so far is that of the blocks so far.

use Rattle.std.proofs.Common.{◌≡◌, ◌∙◌, arith, ◌+◌, ◌-◌, ◌*◌, ◌/◌, ◌≤◌, length, drop}
use lib.ListN.{length-take}
use Rattle.compare.proofs.difference.Bits.{Counted, counted_none, counted-block, counted-last}
use Rattle.compare.proofs.difference.differing_bits.Goals as goal

pub loop-k-init : goal.loop-k-init
loop-k-init c = counted_none _ _

pub loop-k-preserved : goal.loop-k-preserved
loop-k-preserved c =
    let l = c.loop-k in
    let m = 16 * l.k + 16 - 16 * l.k in
    let next : 16 * (l.k + 1) ≡ 16 * l.k + m = omega arith in
    let few : c.from-sum.result ≤ 8 * m = omega (arith, c.from-sum.ensures, c.block_bits.ensures.few, length-take m (drop (16 * l.k) c.args.first.now)) in
    rw next (counted-block c.requires.0 l.invariant m (c.from-sum.ensures ∙ c.block_bits.ensures.value) few)

pub returns : goal.returns
returns c =
    let l = c.loop-k in
    let end : 16 * l.k ≡ 16 * (length c.args.first.now / 16) = omega arith in
    let blocks : Counted c.args.first.now c.args.second.now l.sum (16 * (length c.args.first.now / 16)) = rw end at l.invariant in
    counted-last c.requires.0 blocks (c.from.ensures ∙ c.block_bits-2.ensures.value)
