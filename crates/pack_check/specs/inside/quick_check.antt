-- What the quick test of an argument promises.
use Rattle.std.specs.Prelude.{ℕ, ◌≡◌, Bool, true, List}
use Rattle.std.specs.declared.option.Option.{Option}
use Rattle.std.specs.declared.option.Option.TheVariants.{Some}
use Rattle.layout.specs.declared.Shape.{Shape}
use Rattle.layout.specs.declared.Count.{Count}
use Rattle.layout.specs.Refusals.{ok}
use Rattle.record.specs.declared.slots.Slot.{Slot}
use Rattle.record.specs.Geometry.{amount, bytes_for}
use Rattle.record.specs.Packing.{argument_fits}

-- where the test t passes, none of the numbers 6 to 10, nor 16, is given, whatever the slot's number
pub record Serves (t : Bool) (area : List ℕ) (s : Shape) (n : Count) (a : Slot) : Type 0 where
  pub fits : t ≡ true → (k : ℕ) → argument_fits area s n k a ≡ ok tt

-- a quick test of an argument is sound: where it tells bytes, these are the field's, and the argument serves
pub record Sound (r : Option ℕ) (area : List ℕ) (s : Shape) (n : Count) (a : Slot) : Type 0 where
  pub fits : (bytes : ℕ) → r ≡ Some bytes
      → (bytes ≡ bytes_for s (amount n a.len)) × ((k : ℕ) → argument_fits area s n k a ≡ ok tt)
