-- The number, widened, has the item's eight bytes.
use mathlib.Core.Path.{ap, ◌∙◌}
use Rattle.record.specs.Bytes.{part, store_at}
use Rattle.integers.proofs.load.LoadedLaws.{number-item}
use Rattle.integers.proofs.load.load_item.Goals as goal

pub returns : goal.returns
returns c =
    let a = c.args in
    c.put_number.ensures
    ∙ ap (store_at a.area.now a.to) (number-item a.w a.big a.unsigned (part a.input.now a.at a.w) _ _ c.number_at-x.ensures.0 c.widened.ensures)
