-- What is claimed of the fields with their places: they are the layout's, and the text is made of just their bytes and
-- of spaces. The proof is in proofs/Places.antt and proofs/Spelled.antt.
use Rattle.std.specs.declared.option.Option.TheVariants.{Some}
use Rattle.std.specs.Prelude.{ℕ, ◌+◌, ◌-◌, ◌≤◌, ◌≡◌, Bool, List, [], ◌∷◌, length, take, drop, get_or}
use Rattle.layout.specs.Refusals.{ok}
use Rattle.layout.specs.Layout.{type_of, fields_of}
use Rattle.describe.specs.Placed.{Placed, without_places, placed_fields}

-- all bytes are spaces
abbrev pub Spaces : List ℕ → Type 0
Spaces [] = Unit {0}
Spaces (c ∷ cs) = (c ≡ 32) × Spaces cs

-- a field stands in the text, with nothing but spaces between the place `at` and it
pub record Stands (packing : Bool) (text : List ℕ) (at : ℕ) (p : Placed) : Type 0 where
  pub after : at ≤ p.place
  pub gap : Spaces (take (p.place - at) (drop at text))
  pub inside : p.place + p.size ≤ length text
  -- its type character is at its place
  pub letter : p.letter ≡ get_or text p.place 0
  pub type : type_of p.letter ≡ Some p.what.role
  -- its bytes, taken as a layout of their own, are this one field
  pub spelled : fields_of packing (take p.size (drop p.place text)) ≡ ok (p.what ∷ [])

-- from the place `at` on the text is made of these fields, each after the end of the one before, and of spaces
abbrev pub MadeOf : Bool → List ℕ → ℕ → List Placed → Type 0
MadeOf packing text at [] = Spaces (drop at text)
MadeOf packing text at (p ∷ ps) = Stands packing text at p × MadeOf packing text (p.place + p.size) ps

pub record PlacesOf (packing : Bool) (text : List ℕ) : Type 0 where
  -- without their places the fields are those that the layout reader gives, and a refusal is the same
  pub fields : without_places (placed_fields packing text) ≡ fields_of packing text
  -- the text is made of the fields, and of spaces
  pub made : (ps : List Placed) → placed_fields packing text ≡ ok ps → MadeOf packing text 0 ps

-- `PlacesOf` holds of every text, in packing and in reading
abbrev pub Places : Type 0
Places = (packing : Bool) (text : List ℕ) → PlacesOf packing text
