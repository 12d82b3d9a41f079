-- The fields of a layout and where they stand in its text. Each field is read just as crates/layout/specs/Layout.antt
-- reads it; here its place is kept.
use Rattle.std.specs.Prelude.{ℕ, zero, suc, true, List, [], ◌∷◌, map}
use Rattle.layout.specs.declared.Field.{Field}
use Rattle.layout.specs.Refusals.{Result, ok, refused, ◌>>=◌}
use Rattle.layout.specs.Layout.{Step, space, field, bad, step_of, step_extra}

-- a field, and the byte at which its type character stands
pub record Placed : Type 0 where
  pub what : Field
  pub place : ℕ

abbrev pub fields_in : List Placed → List Field
fields_in ps = map (λ p. p.what) ps

abbrev pub without_places : Result (List Placed) → Result (List Field)
without_places (ok ps) = ok (fields_in ps)
without_places (refused why place) = refused why place

-- a step taken at the place `at`, in front of the fields that follow
abbrev pub placed_before : ℕ → Step → Result (List Placed) → Result (List Placed)
placed_before at space rest = rest
placed_before at (field f n) rest = rest >>= (λ ps. ok (record { what = f; place = at } ∷ ps))
placed_before at (bad why place) rest = refused why place

-- the fields of the text from the place `at` on, after its next n bytes, which belong to the field before
unfoldable pub placed_from : ℕ → ℕ → List ℕ → Result (List Placed)
unfolding step_of
placed_from at n [] = ok []
placed_from at (suc n) (c ∷ cs) = placed_from (suc at) n cs
placed_from at zero (c ∷ cs) =
    let s = step_of true at c cs in
    let rest = placed_from (suc at) (step_extra s) cs in
    placed_before at s rest

-- THE FIELDS OF A LAYOUT WITH THEIR PLACES, as packing reads it, or the first refusal from the left. Without the places
-- they are `fields_of` (crates/promises_claims, `PlacesOf`).
unfoldable pub placed_fields : List ℕ → Result (List Placed)
unfolding placed_from
placed_fields text = placed_from 0 0 text

-- the place of field k, counted from 0; the end of the text where it has no more fields
unfoldable pub place_of : ℕ → List Placed → ℕ → ℕ
place_of end [] k = end
place_of end (p ∷ ps) zero = p.place
place_of end (p ∷ ps) (suc k) = place_of end ps k
