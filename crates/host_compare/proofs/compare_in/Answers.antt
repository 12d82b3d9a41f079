-- The numbers of both tables are decoded, the call on numbers compares, and what it left is written back.
use borrow.Author.Rules.{rules}
use Rattle.record.proofs.Bytes.{all-below}
use Rattle.host_compare.proofs.Calls.{fits, left_by}
use Rattle.host_compare.proofs.compare_in.Goals as goal

pub write_back-requires-clause-fits : goal.write_back-requires-clause-fits
write_back-requires-clause-fits g c = fits _ _ _ _ _ _ _ _ _ (search rules) c.decode.ensures c.decode-2.ensures c.compare-a.ensures

pub returns : goal.returns
returns g c =
    let a = c.args in
    let b = c.write_back.ensures in
    let w = c.write_back.new in
    left_by _ _ _ _ _ _ _ _ _ (search rules) c.decode.ensures c.decode-2.ensures c.compare-a.ensures
    {fslots' = w.first_slots} {sslots' = w.second_slots} {report' = w.report} {reply' = w.reply} {r = c.write_back.result} (b.0, b.1)
    (search rules) (all-below a.first_slots.now (search rules)) (search rules) (all-below a.second_slots.now (search rules))
    b.2.0 b.2.1 b.2.2
