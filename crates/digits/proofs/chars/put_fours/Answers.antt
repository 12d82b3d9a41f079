-- The second four follow the first.

use Rattle.std.proofs.Common.{◌≡◌, ◌∙◌}
use Rattle.record.specs.Bytes.{digits}
use Rattle.record.proofs.Bytes.{length_digits}
use Rattle.byte_runs.proofs.Endian.{low_bytes}
use Rattle.digits.proofs.chars.CharLaws.{halves-put}
use Rattle.digits.proofs.chars.put_fours.Goals as goal

pub returns : goal.returns
returns c =
    let a = c.args in
    let first : c.copy_from_slice.new.self ≡ digits 256 4 a.first = c.copy_from_slice.ensures.after ∙ c.to_le_bytes.ensures ∙ low_bytes 4 a.first in
    let second : c.copy_from_slice-2.new.self ≡ digits 256 4 a.second = c.copy_from_slice-2.ensures.after ∙ c.to_le_bytes-2.ensures ∙ low_bytes 4 a.second in
    rw (first, second) (halves-put a.eight.now (digits 256 4 a.first) (digits 256 4 a.second) c.requires (length_digits 256 4 a.first))
