-- The bytes of the area that values take at most, whatever a record of `bytes` bytes holds (`values-bound` in
-- proofs/measure/Bounds.antt).
use Rattle.std.specs.Prelude.{ℕ, ◌+◌, ◌*◌, List, [], ◌∷◌}
use Rattle.layout.specs.declared.Role.{Role}
use Rattle.layout.specs.declared.Role.TheVariants.{Data, Move}
use Rattle.layout.specs.declared.Shape.{Shape}
use Rattle.layout.specs.declared.Shape.TheVariants.{Text, Digits, Integers, Reals}
use Rattle.layout.specs.declared.Count.{Count}
use Rattle.layout.specs.declared.Field.{Field}
use Rattle.record.specs.Table.{integer_size}
use Rattle.record.specs.Geometry.{items_of}

-- the bytes that n items take: a byte for each of a string, and eight for each integer or real (01, Slot tables)
abbrev pub room_for : Shape → ℕ → ℕ
room_for (Text pad) n = n
room_for (Digits hex high) n = n
room_for (Integers w big) n = integer_size * n
room_for (Reals single big) n = integer_size * n

-- the most that the value of a field takes: a starred one has no more items than the whole record holds
abbrev pub field_bound : ℕ → Role → Count → ℕ
field_bound bytes (Data s) n = room_for s (items_of s n bytes)
field_bound bytes (Move m) n = 0

-- the most that the values of fields one after the other take
unfoldable pub value_bound : ℕ → List Field → ℕ
value_bound bytes [] = 0
value_bound bytes (f ∷ fs) = field_bound bytes f.role f.count + value_bound bytes fs
