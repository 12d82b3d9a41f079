-- The bytes are the digits of the number they make lowest first; turned round, they make it highest first.
use mathlib.Core.Bool.{false}
use mathlib.Core.Path.{◌≡◌, ap, ◌∙◌}
use mathlib.Core.List.{List, reverse}
use Prim.Native.Nat.{ℕ}
use Rattle.std.proofs.Common.{rules}
use Rattle.record.specs.Bytes.{part, number, number_at}
use Rattle.record.proofs.Stores.{length_part}
use lib.ListN.{length}
use Rattle.record.proofs.NumberLaws.{bytes_of}
use Rattle.byte_runs.proofs.Endian.{low_number, turned-eight}
use Rattle.reals.proofs.double_at.Goals as goal

pub returns : goal.returns
unfolding number_at
returns c =
    let a = c.args in
    let got : c.unwrap.result ≡ part a.area.now a.at 8 = search rules in
    let x : c.from_le_bytes.result ≡ number 256 (part a.area.now a.at 8) = c.from_le_bytes.ensures ∙ low_number c.unwrap.result 7 (ap length got ∙ length_part 8 a.at a.area.now c.requires) ∙ ap (number 256) got in
    c.swap_bytes.ensures ∙ turned-eight c.from_le_bytes.result
    ∙ ap (λ (ds : List ℕ). number 256 (reverse ds)) (bytes_of false a.area.now a.at 8 _ (λ i. (c.type_inv.area i).fits) c.requires x)
