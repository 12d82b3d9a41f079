-- The bytes passed from the end are blanks, so what is left trims to the same.
use mathlib.Core.Path.{◌≡◌}
use Rattle.record.specs.Bytes.{part}
use Rattle.record.specs.Reading.{trimmed}
use Rattle.text.proofs.trimmed_len.Given as goal

abbrev pub invariant-loop-i : goal.invariant-loop-i
invariant-loop-i l = trimmed (part l.input l.at l.i) ≡ trimmed (part l.input l.at l.n)
