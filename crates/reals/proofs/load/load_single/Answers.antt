-- The double of the field's single is put into the area.
use mathlib.Core.Path.{ap, ◌∙◌}
use Rattle.record.specs.Bytes.{store_at}
use Rattle.reals.proofs.load.LoadLaws.{loaded-single}
use Rattle.reals.proofs.load.load_single.Goals as goal

pub returns : goal.returns
returns c =
    let a = c.args in
    c.put_number.ensures ∙ ap (store_at a.area.now a.to) (loaded-single a.big _ _ _ c.single_at.ensures c.widen-d.ensures)
