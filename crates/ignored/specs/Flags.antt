-- The flag `u` of a field (02, M-101) changes nothing in packing, and in reading nothing but integers: two layouts
-- whose fields differ in such flags alone give the same call. The proofs are in proofs/Flags.antt.
use Rattle.std.specs.Prelude.{ℕ, ◌≤◌, ◌≡◌, Bool, true, false, List, map, length}
use Rattle.layout.specs.declared.Role.{Role}
use Rattle.layout.specs.declared.Role.TheVariants.{Data, Move}
use Rattle.layout.specs.declared.Shape.TheVariants.{Text, Digits, Integers, Reals}
use Rattle.layout.specs.declared.Field.{Field}
use Rattle.layout.specs.Refusals.{ok}
use Rattle.layout.specs.Layout.{max_layout, fields_of}
use Rattle.record.specs.Packing.{pack}
use Rattle.record.specs.Reading.{read_all}

-- ---- packing

-- a field without its flag
abbrev pub unflagged : Field → Field
unflagged f = record { role = f.role; unsigned = false; count = f.count }

-- two layouts, for packing (true) or reading (false), whose fields are the same once `bare` is applied to each
pub record Alike (packing : Bool) (bare : Field → Field) (layout layout' : List ℕ) : Type 0 where
  pub fields : List Field
  pub fields' : List Field
  pub has-fields : fields_of packing layout ≡ ok fields
  pub has-fields' : fields_of packing layout' ≡ ok fields'
  pub same : map bare fields ≡ map bare fields'
  -- neither text is refused for its size
  pub short : length layout ≤ max_layout
  pub short' : length layout' ≤ max_layout

abbrev pub PackIgnoresFlags : Type 0
PackIgnoresFlags =
    (layout layout' : List ℕ) → Alike true unflagged layout layout' → (slots area output : List ℕ)
    → pack layout slots area output ≡ pack layout' slots area output

-- ---- reading

-- the flag of a field of integers; of any other role none
abbrev pub flag_in : Role → Bool → Bool
flag_in (Data (Text pad)) u = false
flag_in (Data (Digits hex high)) u = false
flag_in (Data (Integers w big)) u = u
flag_in (Data (Reals single big)) u = false
flag_in (Move m) u = false

abbrev pub flagged_integers : Field → Field
flagged_integers f = record { role = f.role; unsigned = flag_in f.role f.unsigned; count = f.count }

abbrev pub ReadIgnoresFlags : Type 0
ReadIgnoresFlags =
    (layout layout' : List ℕ) → Alike false flagged_integers layout layout' → (bs slots area : List ℕ) (mark : ℕ)
    → read_all layout bs slots area mark ≡ read_all layout' bs slots area mark
