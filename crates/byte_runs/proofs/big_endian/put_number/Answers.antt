-- All eight bytes are put at once. Else a turn puts the lowest byte that is left.
use Prim.Native.Nat.{suc, ◌-◌}
use native.Mathlib.Omega.{arith}
use mathlib.Core.Path.{◌≡◌, sym, ap, ◌∙◌}
use Rattle.std.proofs.Common.{rules}
use Rattle.record.specs.Bytes.{store_at, digits, number_bytes}
use Rattle.record.proofs.NumberLaws.{high-put}
use Rattle.record.proofs.Stores.{store-none}
use Rattle.byte_runs.proofs.ByteLaws.{put-part}
use Rattle.byte_runs.proofs.Endian.{high_bytes}
use Rattle.byte_runs.proofs.big_endian.put_number.Goals as goal

pub returns-then-w-eq-INTEGER_SIZE : goal.returns-then-w-eq-INTEGER_SIZE
returns-then-w-eq-INTEGER_SIZE c =
    let a = c.args in
    put-part a.at _ a.out.now _ (search rules) ∙ ap (store_at a.out.now a.at) (c.copy_from_slice.ensures.after ∙ c.to_be_bytes.ensures ∙ rw c.if-w-eq-INTEGER_SIZE.true (high_bytes 8 a.x))

pub loop-j-preserved : goal.loop-j-preserved
loop-j-preserved c =
    let loop = c.loop-j in
    let on : loop.j ≡ suc (loop.j - 1) = omega arith in
    high-put loop.out c.args.at (loop.j - 1) loop.rest (omega arith) ∙ rw on at loop.invariant

pub returns : goal.returns
unfolding number_bytes digits
returns c =
    let none : c.loop-j.j ≡ 0 = omega arith in
    sym (store-none c.loop-j.out c.args.at) ∙ rw none at c.loop-j.invariant
