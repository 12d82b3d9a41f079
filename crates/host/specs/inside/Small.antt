-- Calls that small arrays serve.
use Rattle.std.specs.Prelude.{ℕ, ◌*◌, ◌%◌, Bool, ◌&&◌, leb, eqb}
use Rattle.record.specs.Table.{slot_width, max_slots}
use Rattle.host.specs.Host.{slot_size}

-- the numbers of eight slots, which are few
abbrev pub few_numbers : ℕ
few_numbers = 8 * slot_width

-- a run of `size` slot bytes is taken apart: the slots are whole, and no more than a call may be lent
abbrev pub slot_bytes_fit : ℕ → Bool
slot_bytes_fit size = leb size (slot_size * max_slots) && eqb (size % slot_size) 0
