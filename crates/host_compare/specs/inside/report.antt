-- What is written back of a comparison on numbers: the bytes of its slots and findings, and the reply.
use Rattle.std.specs.Prelude.{ℕ, ◌*◌, ◌≤◌, ◌≡◌, List, eqb, length, take, if◌then◌else◌}
use Rattle.record.specs.declared.Answer.{Answer}
use Rattle.record.specs.Bytes.{store_at}
use Rattle.record.specs.Table.{slot_width}
use Rattle.compare.specs.Difference.{report_width}
use Rattle.host.specs.Numbers.{number_size, numbers_bytes}

-- n slots and findings are in the numbers, and the numbers' bytes in what is lent for them
pub record Fits (n : ℕ) (fslots sslots report ns ms ks : List ℕ) : Type 0 where
  pub first : (length ns * number_size ≤ length fslots) × (n * slot_width ≤ length ns)
  pub second : (length ms * number_size ≤ length sslots) × (n * slot_width ≤ length ms)
  pub findings : (length ks * number_size ≤ length report) × (report_width * n ≤ length ks)

-- a refusal leaves what was lent; an accepted comparison puts `bytes` at the front of it
unfoldable pub put_back : Answer → List ℕ → List ℕ → List ℕ
put_back a lent bytes = if eqb a.number 0 then store_at lent 0 bytes else lent

-- what both tables and the report hold, once the answer a is given
abbrev pub WrittenBack : List ℕ → List ℕ → List ℕ → List ℕ → List ℕ → List ℕ → List ℕ → List ℕ → List ℕ → Answer → Type 0
WrittenBack fslots fslots' sslots sslots' report report' ns ms ks a =
    (fslots' ≡ put_back a fslots (numbers_bytes (take (a.first * slot_width) ns)))
    × (sslots' ≡ put_back a sslots (numbers_bytes (take (a.first * slot_width) ms)))
    × (report' ≡ put_back a report (numbers_bytes (take (report_width * a.first) ks)))
