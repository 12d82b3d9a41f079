-- Nothing is copied where nothing is set; else the value lies inside the area.
use Rattle.std.proofs.Common.{◌∙◌}
use Rattle.sheet.specs.Sheet.{entry_of}
use Rattle.sheet_write.proofs.store.Writing.{value_none}
use Rattle.sheet_write.proofs.store.put_value.Goals as goal

pub returns-then-a-ne-UNSET : goal.returns-then-a-ne-UNSET
unfolding entry_of
returns-then-a-ne-UNSET c = c.copy.ensures ∙ rw c.requires.1

pub returns-else-a-ne-UNSET : goal.returns-else-a-ne-UNSET
returns-else-a-ne-UNSET c = value_none c.args.out.now c.args.area.now c.args.at c.args.a c.if-a-ne-UNSET.false
