-- What the functions inside the two calls compute: numbers of fields at the front of a layout, and the place of one.
use Rattle.std.specs.Prelude.{ℕ, suc, ◌+◌, ◌*◌, ◌/◌, ◌^◌, ◌≤◌, ◌<◌, ◌≡◌, Bool, true, List, [], ◌∷◌, length, take, leb, if◌then◌else◌}
use Rattle.layout.specs.declared.Role.{Role}
use Rattle.layout.specs.declared.Role.TheVariants.{Data, Move}
use Rattle.layout.specs.declared.Motion.TheVariants.{Skip, Back, Goto}
use Rattle.layout.specs.declared.Shape.TheVariants.{Text, Digits, Integers, Reals}
use Rattle.layout.specs.declared.Field.{Field}
use Rattle.layout.specs.declared.Fields.{Fields}
use Rattle.layout.specs.declared.Refused.{Refused}
use Rattle.std.specs.declared.option.Option.{Option}
use Rattle.std.specs.declared.option.Option.TheVariants.{Some, None}
use Rattle.std.specs.declared.result.Result as Std
use Rattle.std.specs.declared.result.Result.TheVariants.{Ok, Err}
use Rattle.layout.specs.Refusals.{ok, refused}
use Rattle.layout.specs.Layout.{max_layout, to_nat, fields_of}
use Rattle.layout.specs.Codes.{skip_number, back_number, goto_number}
use Rattle.layout.specs.inside.Parsing.{decoded}
use Rattle.promises.specs.declared.Reach.{Reach}
use Rattle.promises.specs.declared.Told.{Told}
use Rattle.promises.specs.Placed.{Placed, placed_fields, place_of}
use Rattle.promises.specs.Promises.{Promise, reach_with, nowhere, first_break, same_field, in_layout, layout_fields, grown}

-- a test whose answers are those of the promise q
abbrev pub Judges : (Reach → Field → Bool → Type 0) → Promise → Type 0
Judges told q = (r : Reach) (f : Field) (b : Bool) → told r f b → b ≡ q r f

-- how many fields at the front keep a promise, where the fields before have come as far as r
unfoldable pub kept_front : Promise → Reach → List Field → ℕ
kept_front q r [] = 0
kept_front q r (f ∷ fs) = if q (reach_with r f) f then suc (kept_front q (reach_with r f) fs) else 0

-- the most bytes that the field of a code can fill, since its count is below 2 ^ 23 (`FitCount` in
-- crates/layout/specs/inside/Parsing.antt), and those of a layout: far below what a number of 64 bits holds
abbrev pub code_reach : ℕ
code_reach = 8 * 2 ^ 23

abbrev pub codes_reach : ℕ
codes_reach = max_layout * code_reach

-- the number that a role has in a code (crates/layout/specs/Codes.antt)
abbrev pub type_in : Role → ℕ
type_in (Data (Text pad)) = pad / 32
type_in (Data (Digits hex high)) = 2 + 2 * to_nat hex + to_nat high
type_in (Data (Integers w big)) = (if leb w 1 then 6 else if leb w 2 then 8 else if leb w 4 then 10 else 12) + to_nat big
type_in (Data (Reals single big)) = (if single then 14 else 16) + to_nat big
type_in (Move Skip) = skip_number
type_in (Move Back) = back_number
type_in (Move Goto) = goto_number

-- how many fields at the front of two layouts are the same
unfoldable pub same_front : List Field → List Field → ℕ
unfolding same_field
same_front [] gs = 0
same_front (f ∷ fs) [] = 0
same_front (f ∷ fs) (g ∷ gs) = if same_field f g then suc (same_front fs gs) else 0

-- r is the place of field k of a text that is accepted
pub record PlaceOf (text : List ℕ) (k r : ℕ) : Type 0 where
  pub within : r ≤ length text
  pub same : (ps : List Placed) → placed_fields text ≡ ok ps → r ≡ place_of (length text) ps k

-- the codes are the fields of the text
pub record Holds (text : List ℕ) (ws : List ℕ) : Type 0 where
  pub room : length ws ≤ max_layout
  pub short : length text ≤ max_layout
  pub fields : fields_of true text ≡ ok (decoded (length ws) ws)

-- what is read of a layout: its refusal, or the codes of its fields
abbrev pub ReadAs : List ℕ → Std.Result Fields Refused → List ℕ → Type 0
ReadAs text (Err e) ws = (layout_fields text ≡ refused e.why e.place) × (e.place < max_layout)
ReadAs text (Ok f) ws = (f.count ≤ length ws) × Holds text (take f.count ws)

-- the number that a place has in an answer
abbrev pub place_number : Option ℕ → ℕ
place_number (Some p) = p
place_number None = nowhere

-- a place lies in a layout, or is its end
abbrev pub Short : Option ℕ → Type 0
Short (Some p) = p ≤ max_layout
Short None = Unit {0}

-- r is the place of the first field of the text that breaks a promise, and none where all fields keep it
pub record BreaksAt (text : List ℕ) (q : Promise) (r : Option ℕ) : Type 0 where
  pub short : Short r
  pub same : (ps : List Placed) → placed_fields text ≡ ok ps → place_number r ≡ first_break q ps

-- r is what is answered of the old fields and of the fields of the new text
abbrev pub GrownAs : List ℕ → List Field → Told → Type 0
GrownAs text fs r = (ps : List Placed) → placed_fields text ≡ ok ps → r ≡ in_layout 1 (grown (length text) fs ps)
