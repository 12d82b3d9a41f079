-- The loop holds the number at the limit at every digit, and holding it once at the end gives the same.
use Prim.Native.Nat.{◌+◌, ◌≤◌, min}
use mathlib.Core.Path.{◌≡◌}
use lib.ListN.{drop}
use Rattle.layout.specs.Layout.{digit_run, decimal}
use Rattle.layout.specs.inside.Parsing.{over_count}
use Rattle.layout.proofs.scanner.number.Given as goal

abbrev pub invariant-loop-i : goal.invariant-loop-i
invariant-loop-i l =
    (l.value ≤ over_count) × (min over_count (decimal l.value (drop l.i l.text)) ≡ min over_count (decimal 0 (drop l.at l.text))) × (l.i + digit_run (drop l.i l.text) ≡ l.at + digit_run (drop l.at l.text))
