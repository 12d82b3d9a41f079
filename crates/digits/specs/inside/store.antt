-- The byte that digits are added to.
use Rattle.std.specs.Prelude.{ℕ, zero, suc, List, get_or}

-- what stands at a place of the record, and 0 where no digit is stored there yet
abbrev pub so_far : ℕ → List ℕ → ℕ → ℕ
so_far zero out place = 0
so_far (suc j) out place = get_or out place 0
