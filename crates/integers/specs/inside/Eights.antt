-- Runs of eight bytes.
use Rattle.std.specs.Prelude.{ℕ, Bool, List, map}
use Rattle.record.specs.Bytes.{pieces, join, ordered}

-- the n runs of eight bytes at the front of xs, each turned round where `turn` says so
unfoldable pub eights : Bool → ℕ → List ℕ → List ℕ
eights turn n xs = join (map (ordered turn) (pieces 8 n xs))
