-- The numbers of a slot are those of the value that was loaded.
use Prim.Native.Nat.{ℕ, ◌+◌}
use mathlib.Core.Path.{◌≡◌, ap, ◌∙◌}
use mathlib.Core.List.{List}
use Rattle.record.specs.inside.Slots.{slot_set}
use Rattle.record.specs.Table.{Value, slot_numbers}
use Rattle.reading.specs.declared.value.Loaded.{Loaded}
use Rattle.reading.specs.inside.value.{LoadedAs}
use Rattle.reading.specs.inside.put.{PutAs}

pub put_as : {v : Value} {slots slots' area area' : List ℕ} {k to at : ℕ} {r : Loaded} → LoadedAs v area to r area'
    → slots' ≡ slot_set slots k (record { kind = r.kind; start = to; len = r.items; position = at }) → PutAs v at slots k area to (to + r.size) slots' area'
unfolding slot_numbers
put_as {to} l e = record { next = ap (λ (n : ℕ). to + n) l.size; table = e ∙ rw (l.kind, l.items); values = l.area }
