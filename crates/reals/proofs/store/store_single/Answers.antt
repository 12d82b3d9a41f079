-- The bytes are those of the nearest single, in the order of the field.
use Prim.Native.Nat.{ℕ}
use mathlib.Core.Path.{◌≡◌, ap, ◌∙◌}
use Rattle.std.proofs.Common.{rules}
use Rattle.real.specs.Narrowing.{single_of}
use Rattle.record.specs.Bytes.{store_at, digits, ordered, number_bytes}
use Rattle.byte_runs.proofs.ByteLaws.{put-part}
use Rattle.byte_runs.proofs.Endian.{low_bytes, high_bytes}
use Rattle.reals.specs.inside.store.{single_bytes}
use Rattle.reals.proofs.store.store_single.Goals.{then-big, else-big}
use Rattle.reals.proofs.store.store_single.Goals as goal

pub returns : goal.returns
unfolding single_bytes number_bytes
returns c =
    let a = c.args in
    let s = c.narrow-s.result in
    let bytes : c.if-big.bytes ≡ ordered a.big (digits 256 4 s) =
    elim c.if-big.branch [
      | then-big t ↦ rw t.if-big.true (t.bytes-is ∙ t.to_be_bytes-bytes.ensures ∙ high_bytes 4 s)
      | else-big t ↦ rw t.if-big.false (t.bytes-is ∙ t.to_le_bytes-bytes.ensures ∙ low_bytes 4 s)
    ] in
    put-part a.at _ a.out.now _ (search rules)
    ∙ ap (store_at a.out.now a.at) (c.copy_from_slice.ensures.after ∙ bytes ∙ ap (λ (x : ℕ). ordered a.big (digits 256 4 x)) (c.narrow-s.ensures ∙ ap single_of c.double_at.ensures))
