-- The four bytes are the number's digits in base 256.
use Prim.Native.Nat.{ℕ, ◌<◌}
use native.Mathlib.Omega.{arith}
use mathlib.Core.Bool.{true, false}
use mathlib.Core.Path.{refl, ◌∙◌}
use lib.ListN.{get_or}
use Rattle.record.proofs.NumberLaws.{items, bytes_read}
use Rattle.byte_runs.proofs.Endian.{low_number, high_number}
use Rattle.byte_runs.proofs.four_at.Goals.{then-high, else-high}
use Rattle.byte_runs.proofs.four_at.Goals as goal

pub returns : goal.returns
returns c =
    let a = c.args in
    let four = items a.from.now a.at 0 4 in
    let small : (i : ℕ) → get_or a.from.now i 0 < 256 = λ i. (c.type_inv.from i).fits in
    elim c.if-high.branch [
      | then-high w ↦ (omega (arith, w.x-is, w.from_be_bytes-x.type_inv), rw w.if-high.true (bytes_read true a.from.now a.at 4 _ small c.requires (w.x-is ∙ w.from_be_bytes-x.ensures ∙ high_number four 3 refl)))
      | else-high w ↦ (omega (arith, w.x-is, w.from_le_bytes-x.type_inv), rw w.if-high.false (bytes_read false a.from.now a.at 4 _ small c.requires (w.x-is ∙ w.from_le_bytes-x.ensures ∙ low_number four 3 refl)))
    ]
