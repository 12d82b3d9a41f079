-- The value of a field that was found, and what the code says of it.
use Rattle.std.specs.Prelude.{ℕ, ◌+◌, ◌*◌, ◌≤◌, ◌≡◌, Bool, false, List, length}
use Rattle.layout.specs.declared.Role.TheVariants.{Data}
use Rattle.layout.specs.declared.Shape.{Shape}
use Rattle.layout.specs.declared.Shape.TheVariants.{Text}
use Rattle.layout.specs.Codes.{last_data}
use Rattle.layout.specs.inside.Parsing.{FitRole, shape_numbered}
use Rattle.record.specs.Bytes.{part, store_at}
use Rattle.record.specs.Table.{max_record, Value, area_bytes}
use Rattle.record.specs.Geometry.{bytes_for}
use Rattle.record.specs.Reading.{loaded, value_at}
use Rattle.reading.specs.declared.positions.Found.{Found}
use Rattle.reading.specs.declared.value.Loaded.{Loaded}

-- the bytes of n items of a field lie in the record, which keeps to its size
pub record Inside (bs : List ℕ) (at : ℕ) (s : Shape) (n : ℕ) : Type 0 where
  pub form : FitRole (Data s)
  pub within : at + bytes_for s n ≤ length bs
  pub limit : length bs ≤ max_record

-- so of a field that was found
abbrev pub InRecord : List ℕ → Found → Type 0
InRecord bs f = (f.number ≤ last_data) × Inside bs f.at (shape_numbered f.number) f.items

-- and its value
abbrev pub value_of : List ℕ → Found → Value
value_of bs f = value_at bs f.at (shape_numbered f.number) f.unsigned f.items

-- the first r of a text's n bytes are its value
pub record TextOf (bs : List ℕ) (at n pad r : ℕ) : Type 0 where
  pub short : r ≤ n
  pub items : part bs at r ≡ (loaded (Text pad) false n (part bs at n)).items

-- r is the number of bytes that the value takes in the area, with the flag or without
pub record SizeOf (bs : List ℕ) (at : ℕ) (s : Shape) (n r : ℕ) : Type 0 where
  pub size : (u : Bool) → r ≡ length (area_bytes (value_at bs at s u n))
  pub small : r ≤ 8 * max_record

-- r describes the value v, and the area after is the area before with v put in from the place `to` on
pub record LoadedAs (v : Value) (before : List ℕ) (to : ℕ) (r : Loaded) (after : List ℕ) : Type 0 where
  pub kind : r.kind ≡ v.kind
  pub items : r.items ≡ length v.items
  pub size : r.size ≡ length (area_bytes v)
  pub few : r.items ≤ 8 * max_record
  pub area : after ≡ store_at before to (area_bytes v)
