-- The number's lowest bytes are the run, in its order or turned round.
use mathlib.Core.Path.{ap, ◌∙◌}
use lib.ListN.{take}
use Rattle.std.proofs.Common.{rules}
use Rattle.record.specs.Bytes.{store_at}
use Rattle.record.proofs.NumberLaws.{bytes_of}
use Rattle.byte_runs.proofs.ByteLaws.{put-part}
use Rattle.byte_runs.proofs.Endian.{low_front}
use Rattle.integers.proofs.copy_ordered.Goals as goal

pub returns : goal.returns
returns c =
    let a = c.args in
    put-part a.at _ a.out.now _ (search rules)
    ∙ ap (store_at a.out.now a.at)
    (c.copy_from_slice.ensures.after ∙ ap (take a.n) c.to_le_bytes.ensures ∙ low_front a.n c.number_at-x.result c.requires.0
    ∙ bytes_of a.turn a.from.now a.start a.n _ (λ i. (c.type_inv.from i).fits) c.requires.2 c.number_at-x.ensures.0)
