-- A packing by the fields of the codes: once the fields are known.
use Rattle.std.specs.Prelude.{ℕ, List, length}
use Rattle.layout.specs.inside.Parsing.{decoded}
use Rattle.record.specs.Table.{slots_of}
use Rattle.record.specs.Packing.{finished, Packed, pack_effect}

-- what a call leaves, once there is a slot for each of the fields of the codes that takes one
abbrev pub finishes : List ℕ → List ℕ → List ℕ → List ℕ → Packed
finishes codes slots area output = pack_effect output (finished area (slots_of slots) (decoded (length codes) codes) output)
