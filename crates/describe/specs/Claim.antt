-- What a description has to do with packing: one claim about a layout and every packing by it that is accepted. The
-- proof is in proofs/Describes.antt.
use Rattle.std.specs.Prelude.{ℕ, ◌≤◌, ◌≡◌, Bool, true, false, ◌&&◌, List, [], ◌∷◌, length, drop, T, eqb}
use Rattle.layout.specs.declared.Role.TheVariants.{Data, Move}
use Rattle.layout.specs.declared.Count.{Count}
use Rattle.layout.specs.declared.Count.TheVariants.{Absent, Star, Times}
use Rattle.layout.specs.declared.Field.{Field}
use Rattle.layout.specs.Refusals.{ok}
use Rattle.layout.specs.Layout.{fields_of}
use Rattle.record.specs.declared.Answer.{Answer}
use Rattle.record.specs.declared.slots.Slot.{Slot}
use Rattle.record.specs.Table.{slots_of}
use Rattle.record.specs.Packing.{next_slot, pack}
use Rattle.describe.specs.Description.{layout_reach}

-- ---- starred values

-- a value of `items` items is empty where its count is a star
abbrev pub empty_star : Count → ℕ → Bool
empty_star Absent items = true
empty_star Star items = eqb items 0
empty_star (Times n) items = true

-- every starred value is empty
unfoldable pub stars_empty : List Slot → List Field → Bool
stars_empty ts [] = true
stars_empty ts (f ∷ fs) = elim f.role [
  | Data s ↦ empty_star f.count (next_slot ts).len && stars_empty (drop 1 ts) fs
  | Move m ↦ stars_empty ts fs
]

-- no value is starred; `X*` and `@*` are no values
abbrev pub no_star : Count → Bool
no_star Absent = true
no_star Star = false
no_star (Times n) = true

unfoldable pub starless : List Field → Bool
starless [] = true
starless (f ∷ fs) = elim f.role [ Data s ↦ no_star f.count && starless fs | Move m ↦ starless fs ]

-- ---- the claim

-- a packing by the layout that is accepted
pub record Packing (layout : List ℕ) : Type 0 where
  pub slots : List ℕ
  pub area : List ℕ
  pub output : List ℕ
  pub accepted : (pack layout slots area output).answer.number ≡ 0

abbrev pub length_of : {layout : List ℕ} → Packing layout → ℕ
length_of {layout} p = (pack layout p.slots p.area p.output).answer.first

pub record Describes (layout : List ℕ) (a : Answer) : Type 0 where
  -- a layout by which something is packed is described, not refused
  pub accepts : Packing layout → a.number ≡ 0
  -- the layout takes as many slots as the packing was lent
  pub slots : (p : Packing layout) → length (slots_of p.slots) ≡ a.first
  -- no record is shorter than the answer says
  pub shortest : (p : Packing layout) → a.second ≤ length_of p
  -- where every starred value is empty, the record has just the length that the answer says
  pub emptied : (p : Packing layout) (fs : List Field) → fields_of true layout ≡ ok fs
      → T (stars_empty (slots_of p.slots) fs) → length_of p ≡ a.second
  -- without stars all records have the length that the answer says
  pub fixed : (p : Packing layout) (fs : List Field) → fields_of true layout ≡ ok fs → T (starless fs)
      → length_of p ≡ a.second
  -- the length keeps to a bound, so that the answer holds it
  pub bounded : a.number ≡ 0 → a.second ≤ layout_reach
