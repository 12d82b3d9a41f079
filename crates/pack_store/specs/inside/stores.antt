-- What the value of a field is asked for to be stored, and what is stored of it.
use Rattle.std.specs.Prelude.{ℕ, ◌+◌, ◌≤◌, ◌≡◌, true, List}
use Rattle.layout.specs.declared.Role.TheVariants.{Data}
use Rattle.layout.specs.declared.Shape.{Shape}
use Rattle.layout.specs.declared.Shape.TheVariants.{Text, Digits, Integers, Reals}
use Rattle.layout.specs.inside.Parsing.{FitRole}
use Rattle.record.specs.Bytes.{store_at}
use Rattle.record.specs.declared.slots.Slot.{Slot}
use Rattle.record.specs.Table.{shown, max_record}
use Rattle.record.specs.Geometry.{bytes_for}
use Rattle.record.specs.Packing.{stored, kind_fits, digits_fit}
use Rattle.record.specs.inside.Slots.{inside_area}

-- n items of the value in slot a are stored from the place `at` on, and r is the number of their bytes
abbrev pub StoredAs : List ℕ → Shape → ℕ → Slot → ℕ → List ℕ → ℕ → List ℕ → Type 0
StoredAs area s n a at before r after =
    (r ≡ bytes_for s n) × (after ≡ store_at before at (stored s n (shown area a).items))

abbrev pub Enough : Shape → ℕ → ℕ → Type 0
Enough (Text pad) n have = Unit {0}
Enough (Digits hex high) n have = Unit {0}
Enough (Integers w big) n have = n ≤ have
Enough (Reals single big) n have = n ≤ have

-- n items of the value in a slot can be stored from the place `at` on, in a buffer of `size` bytes
pub record Storable (area : List ℕ) (s : Shape) (n : ℕ) (a : Slot) (at size : ℕ) : Type 0 where
  pub inside : inside_area area a ≡ true
  pub kind : kind_fits s a.kind ≡ true
  pub amounts : Enough s n a.len
  pub digits : digits_fit s n (shown area a).items ≡ true
  pub role : FitRole (Data s)
  pub room : at + bytes_for s n ≤ size
  pub limit : size ≤ max_record
