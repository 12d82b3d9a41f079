-- The slot gets the numbers of the entry, and the area its value.
use Rattle.std.proofs.Common.{arith, ap, sym, ◌∙◌}
use Rattle.sheet.specs.Entries.{entry_in}
use Rattle.sheet.proofs.Entries.{begins}
use Rattle.record.specs.inside.Slots.{slot_set}
use Rattle.sheet_read.proofs.fill.put.Goals as goal

pub length-size-requires : goal.length-size-requires
length-size-requires c = let t = begins _ _ c.requires.entry in omega (arith, t.within)

pub returns : goal.returns
unfolding entry_in
returns c =
    let t = begins _ _ c.requires.entry in
    record {
      size = rw c.length-size.ensures (sym t.long);
      table = c.set_slot.ensures ∙ ap (slot_set c.args.slots.now c.args.k) c.slot_for.ensures ∙ rw (c.width.ensures.0, c.length-size.ensures, t.long);
      values = c.copy.ensures ∙ rw (c.header.ensures.0, c.length-size.ensures);
    }
