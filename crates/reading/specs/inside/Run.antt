-- The values that a run over a record finds.
use Rattle.std.specs.Prelude.{ℕ, List}
use Rattle.layout.specs.inside.Parsing.{decoded}
use Rattle.record.specs.Table.{Value}
use Rattle.record.specs.Reading.{values_from}

-- the values of the fields in the first n codes
abbrev pub values_of : ℕ → List ℕ → List ℕ → List Value
values_of n codes bs = values_from bs 0 (decoded n codes)
