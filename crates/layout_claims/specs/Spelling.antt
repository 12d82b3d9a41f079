-- What a layout text is (01, Layout text, with 02, M-101), said without any reader: the ways to write a list of fields.
-- No line asks what stands after a field: a text goes on with no digit, no star and no flag (`Begins` in Claim).
use Rattle.std.specs.declared.option.Option.TheVariants.{Some}
use Rattle.std.specs.Prelude.{ℕ, ◌+◌, ◌-◌, ◌*◌, ◌^◌, ◌≤◌, ◌≡◌, Bool, true, false, List, [], ◌∷◌, ◌++◌, length}
use Rattle.layout.specs.declared.Role.{Role}
use Rattle.layout.specs.declared.Role.TheVariants.{Move}
use Rattle.layout.specs.declared.Motion.TheVariants.{Skip, Goto}
use Rattle.layout.specs.declared.Count.{Count}
use Rattle.layout.specs.declared.Count.TheVariants.{Absent, Star, Times}
use Rattle.layout.specs.declared.Field.{Field}
use Rattle.layout.specs.Layout.{max_count, type_of}

-- ---- a number in decimal digits

-- `0` to `9`, the bytes 48 to 57
abbrev pub Digit : ℕ → Type 0
Digit d = (48 ≤ d) × (d ≤ 57)

abbrev pub Digits : List ℕ → Type 0
Digits [] = Unit {0}
Digits (d ∷ ds) = Digit d × Digits ds

-- the number that digits make, the highest first; a leading zero adds nothing
unfoldable pub value : List ℕ → ℕ
value [] = 0
value (d ∷ ds) = (d - 48) * 10 ^ length ds + value ds

-- ---- one field

-- the flag `u` (byte 117), or none
abbrev pub flag : Bool → List ℕ
flag true = 117 ∷ []
flag false = []

-- how a count may be written: not at all, as `*` (byte 42), or in digits, of which there may be any number but none
pub data Counts : Count → List ℕ → Type 0 where
  absent : Counts Absent []
  star : Counts Star (42 ∷ [])
  number : {d : ℕ} {ds : List ℕ} → Digits (d ∷ ds) → Counts (Times (value (d ∷ ds))) (d ∷ ds)

-- A FIELD: a type character c, then perhaps the flag, then perhaps a count
pub data Writes : Field → List ℕ → Type 0 where
  written : {c : ℕ} {k : Role} {u : Bool} {n : Count} {count : List ℕ} → type_of c ≡ Some k → Counts n count
      → Writes (record { role = k; unsigned = u; count = n }) (c ∷ (flag u ++ count))

-- ---- THE FORM OF A LAYOUT: the fields fs may be written as this text

pub data Spells : List Field → List ℕ → Type 0 where
  -- no fields: no bytes
  nothing : Spells [] []
  -- a space (byte 32) more, before a field or after the last
  spaced : {fs : List Field} {text : List ℕ} → Spells fs text → Spells fs (32 ∷ text)
  -- a field, and the others
  next : {f : Field} {bytes : List ℕ} {fs : List Field} {rest : List ℕ} → Writes f bytes → Spells fs rest
      → Spells (f ∷ fs) (bytes ++ rest)

-- a text has the form of a layout
abbrev pub Formed : List ℕ → Type 0
Formed text = (fs : List Field) × Spells fs text

-- ---- what a field must keep to besides

-- a field's count is at most 32,768 (02, M-111), or number 3 applies
abbrev pub Small : Count → Type 0
Small Absent = Unit {0}
Small Star = Unit {0}
Small (Times n) = n ≤ max_count

-- a field is misused, and number 4 applies: `@` without a count, and in packing `x` with a star
pub data Misused : Bool → Role → Count → Type 0 where
  no_place : {packing : Bool} → Misused packing (Move Goto) Absent
  no_end : Misused true (Move Skip) Star

abbrev pub Allowed : Bool → List Field → Type 0
Allowed packing [] = Unit {0}
Allowed packing (f ∷ fs) = Small f.count × (Misused packing f.role f.count → ⊥) × Allowed packing fs

-- ---- A LAYOUT, for packing (true) or reading (false): a text of the form whose fields are allowed

pub record Spelled (packing : Bool) (fs : List Field) (text : List ℕ) : Type 0 where
  pub form : Spells fs text
  pub allowed : Allowed packing fs

abbrev pub Accepted : Bool → List ℕ → Type 0
Accepted packing text = (fs : List Field) × Spelled packing fs text
