-- What is kept of the string, and then the padding, are the field's bytes.
use Rattle.text.proofs.TextLaws.{store-padded}
use Rattle.text.proofs.store.Goals as goal

pub returns : goal.returns
returns c =
    let a = c.args in
    store-padded a.out.now a.at a.area.now a.start a.len a.n a.pad
    c.min-kept.result c.requires.1 c.requires.2 c.min-kept.ensures
    c.copy.ensures c.fill.ensures
