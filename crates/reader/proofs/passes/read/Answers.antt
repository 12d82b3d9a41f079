-- The values fit surely, or they are measured.
use mathlib.Core.Path.{sym, ◌∙◌}
use Rattle.reader.proofs.passes.Calls.{surely-room, surely-put}
use Rattle.reader.proofs.passes.read.Goals as goal

pub fill-requires-clause-table_room : goal.fill-requires-clause-table_room
fill-requires-clause-table_room c = surely-room c.requires (sym c.surely_read.ensures ∙ c.if-surely_read.true)

pub returns-then-surely_read : goal.returns-then-surely_read
returns-then-surely_read c = surely-put c.requires (sym c.surely_read.ensures ∙ c.if-surely_read.true) c.fill.ensures
