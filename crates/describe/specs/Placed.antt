-- The fields of a layout and where they stand in its text (document 01, Layout text). Each field is read just as
-- crates/layout/specs/Layout.antt reads it, for packing (true) or reading (false); here the bytes that it takes are
-- kept.
use Rattle.std.specs.Prelude.{ℕ, zero, suc, Bool, List, [], ◌∷◌, map}
use Rattle.layout.specs.declared.Field.{Field}
use Rattle.layout.specs.Refusals.{Result, ok, refused, ◌>>=◌}
use Rattle.layout.specs.Layout.{Step, space, field, bad, step_of, step_extra}

-- a field; the byte at which its type character stands, that character, and how many bytes the field takes
pub record Placed : Type 0 where
  pub what : Field
  pub place : ℕ
  pub letter : ℕ
  pub size : ℕ

abbrev pub fields_in : List Placed → List Field
fields_in ps = map (λ p. p.what) ps

abbrev pub without_places : Result (List Placed) → Result (List Field)
without_places (ok ps) = ok (fields_in ps)
without_places (refused why place) = refused why place

-- the fields from the place `at` on, where c stands: the step taken there, and the fields that follow it (`rest`)
abbrev pub placed_before : ℕ → ℕ → Step → Result (List Placed) → Result (List Placed)
placed_before at c space rest = rest
placed_before at c (field f n) rest =
    rest >>= (λ ps. ok (record { what = f; place = at; letter = c; size = suc n } ∷ ps))
placed_before at c (bad why place) rest = refused why place

-- the fields of the text from the place `at` on, after its next n bytes, which belong to the field before
unfoldable pub placed_from : Bool → ℕ → ℕ → List ℕ → Result (List Placed)
unfolding step_of
placed_from packing at n [] = ok []
placed_from packing at (suc n) (c ∷ cs) = placed_from packing (suc at) n cs
placed_from packing at zero (c ∷ cs) =
    let s = step_of packing at c cs in
    let rest = placed_from packing (suc at) (step_extra s) cs in
    placed_before at c s rest

-- THE FIELDS OF A LAYOUT WITH THEIR PLACES, for packing or reading, or the first refusal from the left
unfoldable pub placed_fields : Bool → List ℕ → Result (List Placed)
unfolding placed_from
placed_fields packing text = placed_from packing 0 0 text
