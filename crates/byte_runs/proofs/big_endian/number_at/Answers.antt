-- The bytes stand at the end of a block of zeros.
use Prim.Native.Nat.{ℕ, ◌+◌, ◌-◌, ◌<◌}
use native.Mathlib.Omega.{arith}
use mathlib.Core.Path.{◌≡◌, ap, ◌∙◌}
use mathlib.Core.Bool.{true}
use mathlib.Core.List.{List, reverse}
use lib.ListN.{take, drop, length, length-reverse}
use Rattle.record.specs.Bytes.{part, number, number_at}
use Rattle.record.proofs.Bytes.{all-ordered}
use Rattle.record.proofs.NumberLaws.{part_bytes}
use Rattle.record.proofs.Stores.{length_part}
use Rattle.record.proofs.Widening.{number-below}
use Rattle.byte_runs.proofs.Endian.{high_padded}
use Rattle.byte_runs.proofs.big_endian.number_at.Goals as goal

pub returns : goal.returns
unfolding number_at
returns c =
    let a = c.args in
    let bs = part a.bytes.now a.at a.w in
    let count : a.at + a.w - a.at ≡ a.w = omega arith in
    let got : c.copy_from_slice.new.self ≡ bs = c.copy_from_slice.ensures.after ∙ ap (λ (k : ℕ). take k (drop a.at a.bytes.now)) count in
    let long : length bs ≡ a.w = length_part a.w a.at a.bytes.now c.requires.0 in
    let is : c.from_be_bytes.result ≡ number 256 (reverse bs) =
    c.from_be_bytes.ensures ∙ high_padded (8 - a.w) _ _ (rw (got, long) (omega arith)) (omega arith) ∙ ap (λ (s : List ℕ). number 256 (reverse s)) got in
    let small = number-below 256 (reverse bs) (all-ordered (λ d. d < 256) true bs (part_bytes a.bytes.now a.at a.w (λ i. (c.type_inv.bytes i).fits))) in
    let count-turned : length (reverse bs) ≡ a.w = length-reverse bs ∙ long in
    (is, rw is (rw count-turned at small))
