-- What both calls leave, by what they are lent.
use Rattle.std.specs.Prelude.{ℕ, List}
use Rattle.record.specs.declared.Answer.{Answer}
use Rattle.sheet.specs.Claims.{Kept}

-- the answer r, and what stands then in the writer's buffer and in the reader's table and area
abbrev pub left : List ℕ → List ℕ → List ℕ → List ℕ → List ℕ → List ℕ → Answer → Kept
left buffer buffer' table table' values values' r = record { answer = r; buffer = buffer'; slots = table'; area = values' }
