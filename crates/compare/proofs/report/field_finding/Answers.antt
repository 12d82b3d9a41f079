-- Each pair of values is one case of the finding.

use Rattle.compare.specs.Report.{finding_of}
use Rattle.compare.proofs.report.field_finding.Goals as goal

pub both_finding-requires : goal.both_finding-requires
both_finding-requires c = let a = c.in-Some-Some.ensures in a.0

pub returns-in-Some-Some : goal.returns-in-Some-Some
unfolding finding_of
returns-in-Some-Some c = let a = c.in-Some-Some.ensures in let b = c.in-Some-Some.ensures' in rw (a.1.1, b.1.1) c.both_finding.ensures

pub returns-in-Some-None : goal.returns-in-Some-None
unfolding finding_of
returns-in-Some-None c = let a = c.in-Some-None.ensures in let b = c.in-Some-None.ensures' in rw (a.1.1, b)

pub returns-in-None-Some : goal.returns-in-None-Some
unfolding finding_of
returns-in-None-Some c = let a = c.in-None-Some.ensures in let b = c.in-None-Some.ensures' in rw (a, b.1.1)

pub returns-in-None-None : goal.returns-in-None-None
unfolding finding_of
returns-in-None-None c = let a = c.in-None-None.ensures in let b = c.in-None-None.ensures' in rw (a, b)
