-- A turn puts the lowest byte that is left: the loop keeps what comes of putting those that are left.
use mathlib.Core.Path.{◌≡◌}
use Rattle.record.specs.Bytes.{store_at, number_bytes}
use Rattle.byte_runs.proofs.big_endian.put_number.Given as goal

abbrev pub invariant-loop-j : goal.invariant-loop-j
invariant-loop-j l = store_at l.out l.at (number_bytes l.j l.rest) ≡ store_at l.initial.out l.at (number_bytes l.w l.x)
