-- Turn j stores the bytes of number j: the loop keeps `Wrote`.
use Rattle.record.proofs.Stores.{Wrote}
use Rattle.describe.proofs.fields.RowLaws.{bytes_at}
use Rattle.describe.proofs.fields.put_numbers.Given as goal

abbrev pub invariant-loop-j : goal.invariant-loop-j
invariant-loop-j l = Wrote l.initial.out l.at (bytes_at l.numbers) l.out l.j
