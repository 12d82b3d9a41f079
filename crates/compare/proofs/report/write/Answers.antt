-- One finding a turn, one after the other.

use Rattle.std.proofs.Common.{ap, ◌∙◌, arith, ◌+◌, ◌-◌, ◌*◌}
use Rattle.record.specs.Bytes.{store_at}
use Rattle.record.proofs.Stores.{wrote_none, wrote-done}
use Rattle.compare.proofs.report.Findings.{finding-more, findings-runs}
use Rattle.compare.proofs.report.write.Goals as goal

pub loop-i-init : goal.loop-i-init
loop-i-init c = wrote_none

pub loop-i-preserved : goal.loop-i-preserved
loop-i-preserved c =
    let l = c.loop-i in
    finding-more _ _ (3 * l.i + 3 - 3 * l.i) l.invariant (omega arith) (c.copy_from_slice.ensures.after ∙ c.numbers-numbers.ensures ∙ c.field_finding.ensures) (omega arith)

pub returns : goal.returns
returns c = wrote-done c.loop-i.invariant (omega arith) (omega arith) ∙ ap (store_at _ 0) (findings-runs _ _ _)
