-- The bytes stand at the front of a block of zeros, or at its end.
use Prim.Native.Nat.{ℕ, ◌+◌, ◌-◌}
use native.Mathlib.Omega.{arith}
use mathlib.Core.Path.{◌≡◌, ap, ◌∙◌}
use lib.ListN.{take, drop, length}
use Rattle.record.specs.Bytes.{part, number, number_at}
use Rattle.record.proofs.NumberLaws.{part_bytes}
use Rattle.record.proofs.Stores.{length_part}
use Rattle.record.proofs.Widening.{number-below}
use Rattle.byte_runs.proofs.Endian.{low_padded}
use Rattle.integers.proofs.number_at.Goals as goal

pub returns-then-big : goal.returns-then-big
unfolding number_at
returns-then-big c = rw c.if-big.true c.number_at.ensures

pub returns : goal.returns
returns c =
    let a = c.args in
    let bs = part a.bytes.now a.at a.w in
    let count : a.at + a.w - a.at ≡ a.w = omega arith in
    let got : c.copy_from_slice.new.self ≡ bs = c.copy_from_slice.ensures.after ∙ ap (λ (k : ℕ). take k (drop a.at a.bytes.now)) count in
    let long : length bs ≡ a.w = length_part a.w a.at a.bytes.now c.requires.1 in
    let is : c.from_le_bytes.result ≡ number 256 bs =
    c.from_le_bytes.ensures ∙ low_padded a.w _ (ap length got ∙ long) c.requires.0 ∙ ap (number 256) got in
    let small = number-below 256 bs (part_bytes a.bytes.now a.at a.w (λ i. (c.type_inv.bytes i).fits)) in
    rw c.if-big.false (is, rw is (rw long at small))
