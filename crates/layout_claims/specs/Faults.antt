-- The numbers 2, 3 and 4 of a text (01, Numbers that come back; 02, M-106), by the form of a layout alone: what stands
-- at the first fault from the left, and the place that is told.
use Rattle.std.specs.declared.option.Option.TheVariants.{Some}
use Rattle.std.specs.Prelude.{ℕ, suc, ◌+◌, ◌<◌, ◌≡◌, Bool, List, [], ◌∷◌, ◌++◌, length}
use Rattle.layout.specs.declared.Role.{Role}
use Rattle.layout.specs.declared.Field.{Field}
use Rattle.layout.specs.declared.Refusal.{Refusal}
use Rattle.layout.specs.declared.Refusal.TheVariants.{BadType, BadCount, BadMove}
use Rattle.layout.specs.Layout.{max_count, type_of}
use Rattle.layout_claims.specs.Spelling.{Digits, value, flag, Writes, Formed, Misused, Accepted}

-- the byte after those of a field does not belong to it: with it they are no field
abbrev pub Ends : List ℕ → List ℕ → Type 0
Ends bytes [] = Unit {0}
Ends bytes (c ∷ more) = (f : Field) → Writes f (bytes ++ (c ∷ [])) → ⊥

-- A FAULT, for packing (true) or reading (false): front, the text before it, is a layout; more may be anything
pub data Faulty (packing : Bool) : List ℕ → Refusal → ℕ → Type 0 where
  -- number 2, at the byte c: with c the text before it has no longer the form of a layout
  unknown : {front : List ℕ} (c : ℕ) (more : List ℕ) → Accepted packing front → (Formed (front ++ (c ∷ [])) → ⊥)
      → Faulty packing (front ++ (c ∷ more)) BadType (length front)
  -- number 3, at the first digit: a type character c, perhaps the flag, and digits, perhaps with more after them, that
  -- make a number above 32,768
  large : {front : List ℕ} (c : ℕ) {k : Role} (u : Bool) (ds more : List ℕ) → Accepted packing front
      → type_of c ≡ Some k → Digits ds → max_count < value ds
      → Faulty packing (front ++ (c ∷ (flag u ++ (ds ++ more)))) BadCount (length front + suc (length (flag u)))
  -- number 4, at the type character: a field that is misused, and that does not go on
  misused : {front : List ℕ} {f : Field} {bytes : List ℕ} (more : List ℕ) → Accepted packing front
      → Writes f bytes → Ends bytes more → Misused packing f.role f.count
      → Faulty packing (front ++ (bytes ++ more)) BadMove (length front)

-- the byte c goes on with a field that ends the text: it is a flag, a star or a digit that belongs to it
pub record GoesOn (text : List ℕ) (c : ℕ) : Type 0 where
  pub start : List ℕ
  pub bytes : List ℕ
  pub parts : text ≡ start ++ bytes
  pub form : Formed start
  pub short : (f : Field) × Writes f bytes
  pub long : (f : Field) × Writes f (bytes ++ (c ∷ []))
