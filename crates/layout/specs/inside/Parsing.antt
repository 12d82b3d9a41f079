-- What the functions of the layout reader promise each other, and its callers: `Parses` is the contract of `parse`, and
-- packer and reader see nothing else of it (01, Layout text).
use Rattle.std.specs.declared.option.Option.TheVariants.{Some}
use Rattle.std.specs.Prelude.{ℕ, suc, ◌+◌, ◌^◌, ◌≤◌, ◌<◌, min, ◌≡◌, Bool, List, map, length, take, drop, get_or, leb, if◌then◌else◌}
use Rattle.layout.specs.declared.Role.{Role}
use Rattle.layout.specs.declared.Role.TheVariants.{Data, Move}
use Rattle.layout.specs.declared.Shape.{Shape}
use Rattle.layout.specs.declared.Shape.TheVariants.{Text, Digits, Integers, Reals}
use Rattle.layout.specs.declared.Count.{Count}
use Rattle.layout.specs.declared.Count.TheVariants.{Absent, Star, Times}
use Rattle.layout.specs.declared.Field.{Field}
use Rattle.layout.specs.declared.Fields.{Fields}
use Rattle.layout.specs.declared.Item.{Item}
use Rattle.layout.specs.declared.Refused.{Refused}
use Rattle.std.specs.declared.result.Result as Std
use Rattle.std.specs.declared.result.Result.TheVariants.{Ok, Err}
use Rattle.layout.specs.Refusals.{Result, ok, refused}
use Rattle.layout.specs.Layout.{max_layout, max_count, real_size, to_nat, slots_taken, flagged, digit_run, decimal, count_of, count_length, Step, field, bad, step_of, fields_from, slot_count}
use Rattle.layout.specs.Codes.{last_integers, last_single, last_data, last_type, width_numbered, type_numbered, known, field_of, code_for}

-- the bytes of a layout that is read into a small array; both ways of reading it answer the same
abbrev pub short_layout : ℕ
short_layout = 32

-- ---- types by their numbers

-- the bytes of an item, where all items have as many: an integer or a real
abbrev pub size_numbered : ℕ → ℕ
size_numbered k = if leb k last_integers then width_numbered k else real_size (leb k last_single)

-- the form of what takes a slot; a move, which takes none, stands here as `a`
abbrev pub shape_of : Role → Shape
shape_of (Data s) = s
shape_of (Move m) = Text 0

-- asked of a number d: where it is not above the last, it has a type (the numbers in the gap have none)
abbrev pub HasType : ℕ → Type 0
HasType d = d ≤ last_type → type_numbered d ≡ Some (known (type_numbered d))

-- the form of a type that takes a slot, by its number
unfoldable pub shape_numbered : ℕ → Shape
unfolding type_numbered
shape_numbered d = shape_of (known (type_numbered d))

-- the slots that a type takes, by its number
abbrev pub slots_numbered : ℕ → ℕ
slots_numbered d = to_nat (leb d last_data)

-- what every code's field keeps to: an integer has 1 to 8 bytes, and a count is below what a code of 32 bits can hold
abbrev pub FitRole : Role → Type 0
FitRole (Data (Text pad)) = Unit {0}
FitRole (Data (Digits hex high)) = Unit {0}
FitRole (Data (Integers w big)) = (0 < w) × (w ≤ 8)
FitRole (Data (Reals single big)) = Unit {0}
FitRole (Move m) = Unit {0}

abbrev pub FitCount : Count → Type 0
FitCount Absent = Unit {0}
FitCount Star = Unit {0}
FitCount (Times n) = n < 2 ^ 23

pub record FieldOf (w : ℕ) (f : Field) : Type 0 where
  pub same : f ≡ field_of w
  pub role : FitRole f.role
  pub count : FitCount f.count

-- the fields in the first n codes
unfoldable pub decoded : ℕ → List ℕ → List Field
unfolding field_of
decoded n ws = map field_of (take n ws)

-- ---- what `parse` promises

-- the answer: how many fields there are and how many slots they take, or the refusal
abbrev pub parsed_as : Result (List Field) → Std.Result Fields Refused
parsed_as (ok fs) = Ok (record { count = length fs; slots = slot_count fs })
parsed_as (refused n p) = Err (record { why = n; place = p })

-- the first codes stand for the fields, where the text is accepted
abbrev pub Decodes : Result (List Field) → List ℕ → Type 0
Decodes (ok fs) ws = decoded (length fs) ws ≡ fs
Decodes (refused n p) ws = Unit {0}

-- the first codes are those of the fields, where the text is accepted
abbrev pub Encodes : Result (List Field) → List ℕ → Type 0
Encodes (ok fs) ws = map code_for fs ≡ take (length fs) ws
Encodes (refused n p) ws = Unit {0}

-- the answer is that of the definition, and the first codes are the fields; the other codes may be anything
pub record Parses (o : Result (List Field)) (r : Std.Result Fields Refused) (ws : List ℕ) : Type 0 where
  pub answer : r ≡ parsed_as o
  pub codes : Decodes o ws
  pub plan : Encodes o ws
  pub room : length ws ≤ max_layout

-- ---- inside `parse`

-- the fields that are still to come of a text from the place `at` on
unfoldable pub rest : Bool → List ℕ → ℕ → Result (List Field)
unfolding fields_from
rest packing text at = fields_from packing at 0 (drop at text)

-- r is the first place from `at` on that is no space, and the fields from there on are those from `at` on
pub record SpacesEnd (text : List ℕ) (at r : ℕ) : Type 0 where
  pub from : at ≤ r
  pub within : r ≤ length text
  pub same : (packing : Bool) → rest packing text at ≡ rest packing text r
  pub stops : r < length text → get_or text r 0 ≡ 32 → ⊥

-- the step that an answer of `read_field` stands for
abbrev pub step_found : Std.Result Item Refused → Step
step_found (Ok i) = field (field_of i.code) i.more
step_found (Err e) = bad e.why e.place

-- what is told of a field found at p: its slots are its own, it ends inside a text of `size` bytes, and w is its code
abbrev pub Told : ℕ → ℕ → Std.Result Item Refused → Type 0
Told size p (Ok i) = (i.slots ≡ slots_taken (field_of i.code)) × (p + i.more < size) × (code_for (field_of i.code) ≡ i.code)
Told size p (Err e) = Unit {0}

pub record FoundAs (packing : Bool) (text : List ℕ) (p : ℕ) (r : Std.Result Item Refused) : Type 0 where
  pub step : step_of packing p (get_or text p 0) (drop (suc p) text) ≡ step_found r
  pub told : Told (length text) p r

-- a count above the limit is held at the first number above it
abbrev pub over_count : ℕ
over_count = suc max_count

abbrev pub held_number : Count → ℕ
held_number Absent = 0
held_number Star = 1
held_number (Times n) = suc (suc (min over_count n))

-- the number that the digits at a place make, held, and the place after them
abbrev pub NumberAt : List ℕ → ℕ → ℕ → ℕ → Type 0
NumberAt text at v e = (v ≡ min over_count (decimal 0 (drop at text))) × (e ≡ at + digit_run (drop at text))

-- the number of the count at a place, held, and the place after it
abbrev pub CountAt : List ℕ → ℕ → ℕ → ℕ → Type 0
CountAt text at v e = (v ≡ held_number (count_of (drop at text))) × (e ≡ at + count_length (drop at text))

-- the flag and the count at a place: the flag as a number, the number of the count, held, and the place after both
abbrev pub TailAt : List ℕ → ℕ → ℕ → ℕ → ℕ → Type 0
TailAt text at u v e = (u ≡ to_nat (flagged (drop at text))) × CountAt text (at + u) v e
