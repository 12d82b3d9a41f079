-- Whatever text was stored once, what stands there goes on as its repetitions do, up to the place j.
use Prim.Native.Nat.{ℕ, ◌-◌}
use mathlib.Core.List.{List}
use Rattle.std.specs.declared.option.Option.TheVariants.{Some}
use Rattle.record.proofs.Stores.{Put}
use Rattle.perl.specs.Writing.{repeated}
use Rattle.perl.specs.inside.Readers.{Stored}
use Rattle.perl.proofs.items.again.Given as goal

abbrev pub invariant-loop-j : goal.invariant-loop-j
invariant-loop-j l =
    (s d : List ℕ) → Stored s (Some l.to) d (Some l.end) l.initial.out → Put d l.to (repeated l.fn.times s) l.out (l.j - l.to)
