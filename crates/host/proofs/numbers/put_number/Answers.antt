-- The library's four bytes of a number are those of the definition, the highest first.
use mathlib.Core.Path.{ap, ◌∙◌}
use Rattle.std.proofs.Common.{rules}
use Rattle.record.specs.Bytes.{store_at}
use Rattle.byte_runs.proofs.ByteLaws.{put-part}
use Rattle.byte_runs.proofs.Endian.{high_bytes}
use Rattle.host.proofs.numbers.put_number.Goals as goal

pub returns : goal.returns
returns c =
    let a = c.args in
    put-part a.at _ a.out.now _ (search rules) ∙ ap (store_at a.out.now a.at) (c.copy_from_slice.ensures.after ∙ c.to_be_bytes.ensures ∙ high_bytes 4 a.x)
