-- What holds of every layout text (01, Layout text, and the numbers 2, 3 and 4 of its table): the layout reader accepts
-- just the texts that Spelling calls layouts, and refuses each other one with the number and place of its fault. So no
-- reader need be believed. Proved in proofs/Form.antt (`blank`, `begins`, `one_list`, `joined`), proofs/Ends.antt
-- (`strays`) and proofs/Judged.antt (`spellings`, `places`, `judged`).
use Rattle.std.specs.declared.option.Option.TheVariants.{None}
use Rattle.std.specs.Prelude.{ℕ, ◌≡◌, ◌↔◌, ◌⊎◌, Bool, List, [], ◌∷◌, ◌++◌, length, replicate}
use Rattle.layout.specs.declared.Field.{Field}
use Rattle.layout.specs.declared.Refusal.{Refusal}
use Rattle.layout.specs.Refusals.{ok, refused}
use Rattle.layout.specs.Layout.{type_of, fields_of}
use Rattle.layout_claims.specs.Spelling.{Digit, Spells, Formed, Spelled, Accepted}
use Rattle.layout_claims.specs.Faults.{Faulty, GoesOn}

-- ---- the form

-- a layout without fields is any number of spaces, and nothing else is
unfoldable pub Blank : Type 0
Blank = (text : List ℕ) → Spells [] text ↔ (text ≡ replicate (length text) 32)

-- no text begins with a digit, with `*` (byte 42) or with `u` (byte 117): such a byte can only go on with a field
unfoldable pub Begins : Type 0
Begins = (fs : List Field) (c : ℕ) (text : List ℕ) → Spells fs (c ∷ text) → (Digit c → ⊥) × (c ≡ 42 → ⊥) × (c ≡ 117 → ⊥)

-- a text spells one list of fields at most
unfoldable pub OneList : Type 0
OneList = (text : List ℕ) (fs gs : List Field) → Spells fs text → Spells gs text → fs ≡ gs

-- two texts joined spell the fields of the first and then those of the second
unfoldable pub Joined : Type 0
Joined = (a b : List ℕ) (fs gs : List Field) → Spells fs a → Spells gs b → Spells (fs ++ gs) (a ++ b)

-- a byte breaks the form (number 2) where it is no space, no type character, and does not go on with the field before
unfoldable pub Strays : Type 0
Strays = (text : List ℕ) (c : ℕ) → Formed text
    → (Formed (text ++ (c ∷ [])) → ⊥) ↔ ((c ≡ 32 → ⊥) × (type_of c ≡ None) × (GoesOn text c → ⊥))

-- ---- the reader

-- a text is accepted with these fields exactly where it spells them
unfoldable pub Spellings : Type 0
Spellings = (packing : Bool) (text : List ℕ) (fs : List Field)
    → (fields_of packing text ≡ ok fs) ↔ Spelled packing fs text

-- a text is refused with this number and place exactly where this is its fault
unfoldable pub Places : Type 0
Places = (packing : Bool) (text : List ℕ) (why : Refusal) (place : ℕ)
    → (fields_of packing text ≡ refused why place) ↔ Faulty packing text why place

-- every text is a layout or has a fault, never both, and never two faults
pub record JudgedOnce (packing : Bool) (text : List ℕ) : Type 0 where
  pub either : Accepted packing text ⊎ ((why : Refusal) × (place : ℕ) × Faulty packing text why place)
  pub not-both : (why : Refusal) (place : ℕ) → Accepted packing text → Faulty packing text why place → ⊥
  pub one-fault : (why why' : Refusal) (place place' : ℕ) → Faulty packing text why place
      → Faulty packing text why' place' → (why ≡ why') × (place ≡ place')

unfoldable pub Judged : Type 0
Judged = (packing : Bool) (text : List ℕ) → JudgedOnce packing text
