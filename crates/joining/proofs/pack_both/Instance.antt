-- The premise can be met: `a* ` and ` Su2` over one area, into a buffer of eight bytes; what is left is computed.
use mathlib.Core.Path.{◌≡◌, refl}
use mathlib.Core.Bool.{true, false}
use mathlib.Core.List.{[], ◌∷◌, ◌++◌}
use lib.ListN.{replicate}
use Rattle.layout.specs.declared.Role.TheVariants.{Data}
use Rattle.layout.specs.declared.Shape.TheVariants.{Text, Integers}
use Rattle.layout.specs.declared.Count.TheVariants.{Star, Times}
use Rattle.layout.specs.Refusals.{ok}
use Rattle.layout.specs.Layout.{fields_of}
use Rattle.layout.specs.Quoted.{bytes}
use Rattle.record.specs.Packing.{packs}
use Rattle.joining.specs.Claim.{forward}
use Rattle.joining.specs.Calls.{Pair, packs_both, Joinable}

abbrev pair : Pair
pair = record {
  first = record { text = bytes "a* "; slots = 1 ∷ 0 ∷ 2 ∷ 9 ∷ [] };
  second = record { text = bytes " Su2"; slots = 3 ∷ 2 ∷ 2 ∷ 9 ∷ [] };
  area = bytes "ok" ++ replicate 6 0 ++ (255 ∷ 254 ∷ []) ++ replicate 7 0 ++ (3 ∷ []);
  output = replicate 8 9;
}

joinable : Joinable pair
unfolding fields_of forward
joinable = record {
  first-fields = record { role = Data (Text 0); unsigned = false; count = Star } ∷ [];
  second-fields = record { role = Data (Integers 2 true); unsigned = true; count = Times 2 } ∷ [];
  first-has = refl;
  second-has = refl;
  first-forward = tt;
  second-forward = tt;
  sizes = tt;
}

packed : packs_both pair ≡ ok (bytes "ok" ++ (255 ∷ 254 ∷ 0 ∷ 3 ∷ []))
unfolding packs_both packs
packed = refl
