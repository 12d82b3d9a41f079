-- The tests of a call that go by lengths alone.
use Rattle.std.specs.Prelude.{ℕ, ◌*◌, ◌/◌, Bool, ◌&&◌, leb}
use Rattle.record.specs.Table.{slot_width}
use Rattle.record.specs.Geometry.{lengths_fit}

-- number 1 is not given: what is lent keeps to its size, the slots are whole, and the mark lies in the area
abbrev pub read_lent_fits : ℕ → ℕ → ℕ → ℕ → ℕ → Bool
read_lent_fits layout slots bytes area mark = lengths_fit layout slots bytes area && leb mark area

-- room for the values of n fields whatever a record of `bytes` bytes holds, and slots for the `taken` of them that take
-- one
abbrev pub surely_fits : ℕ → ℕ → ℕ → ℕ → ℕ → Bool
surely_fits n taken bytes slots room = leb (8 * (n * bytes)) room && leb taken (slots / slot_width)
