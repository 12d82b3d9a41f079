-- One finding a turn, one after the other.

use Rattle.record.proofs.Stores.{Wrote}
use Rattle.compare.specs.inside.Shown.{shown_bytes}
use Rattle.compare.proofs.report.Findings.{finding_at}
use Rattle.compare.proofs.report.write.Given as goal

abbrev pub invariant-loop-i : goal.invariant-loop-i
invariant-loop-i l =
    Wrote l.fn.report 0 (finding_at (shown_bytes l.first.slots.now l.first.area.now l.first.set) (shown_bytes l.second.slots.now l.second.area.now l.second.set)) l.report l.i
