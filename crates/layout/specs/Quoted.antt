-- A quoted text as its bytes, so that examples read as document 01 has them.
use Rattle.std.specs.Prelude.{ℕ, List, [], ◌∷◌}
use Prim.Native.Char.{code}
use Prim.Native.String.{String, [] as ε, ◌∷◌ as ◌▸◌}

abbrev pub bytes : String → List ℕ
bytes ε = []
bytes (c ▸ s) = code c ∷ bytes s
