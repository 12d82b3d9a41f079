-- The number stored has the filler's four bytes and then the field's, which are the item's eight.
use Prim.Native.Nat.{◌+◌, ◌-◌, ◌*◌, ◌/◌, ◌^◌, ◌%◌, ◌<◌}
use native.Mathlib.Omega.{arith}
use mathlib.Core.Path.{◌≡◌, ap, ◌∙◌}
use Rattle.std.specs.Prelude.{if◌then◌else◌}
use Rattle.std.proofs.Common.{rules}
use Rattle.std.proofs.lemmas.Nat.{shl_whole}
use Rattle.record.specs.Bytes.{part, store_at, digits}
use Rattle.record.proofs.NumberLaws.{part_bytes}
use Rattle.record.proofs.Stores.{length_part}
use Rattle.byte_runs.proofs.ByteLaws.{put-part}
use Rattle.byte_runs.proofs.Endian.{low_bytes}
use Rattle.integers.proofs.load.LoadedLaws.{four-filled, item-digits}
use Rattle.integers.proofs.load.load_four.Goals as goal
use Rattle.integers.proofs.load.load_four.Goals.{then-unsigned, else-unsigned}

pub returns : goal.returns
returns c =
    let a = c.args in
    let x = c.four_at-four.result in
    let sign = c.if-unsigned.sign in
    let bs = part a.input.now a.at 4 in
    let top : x % 256 < 256 = omega arith in
    let is : sign ≡ (if a.unsigned then 0 else (x % 256 / 128)) =
    elim c.if-unsigned.branch [ then-unsigned w ↦ rw w.if-unsigned.true w.sign-is | else-unsigned w ↦ rw w.if-unsigned.false w.sign-is ] in
    let filled = four-filled a.unsigned (x % 256) sign top is in
    let eight =
    item-digits 4 a.big a.unsigned bs _ x (length_part 4 a.at a.input.now c.requires.1) (omega arith) (omega arith) (part_bytes a.input.now a.at 4 (λ i. (c.type_inv.input i).fits)) c.four_at-four.ensures.1 filled.0 filled.1 in
    let sum : c.from.result + c.from-2.result * 2 ^ 32 % 2 ^ 64 ≡ (0 + (2 ^ 32 - sign)) % 2 ^ 32 + 256 ^ 4 * x =
    rw (c.from.ensures, c.from-2.ensures, shl_whole x 32 32 64 c.four_at-four.ensures.0 (omega arith)) (omega arith) in
    put-part a.to _ a.area.now _ (search rules)
    ∙ ap (store_at a.area.now a.to) (c.copy_from_slice.ensures.after ∙ c.to_le_bytes.ensures ∙ low_bytes 8 _ ∙ ap (digits 256 8) sum ∙ eight)
