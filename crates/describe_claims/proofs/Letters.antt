-- What the letter of a field says of its type: whether it is `@`, and that an integer has 1 to 8 bytes. Every letter is
-- below 128.
use Rattle.std.specs.declared.option.Option.{Option}
use Rattle.std.specs.declared.option.Option.TheVariants.{Some, None}
use Rattle.std.specs.Prelude.{if◌then◌else◌}
use Prim.Native.Nat.{ℕ, ◌+◌, ◌<◌}
use native.Mathlib.Omega.{arith}
use mathlib.Core.Path.{◌≡◌, refl, sym, subst}
use mathlib.Core.Bool.{Bool, true, false}
use mathlib.Core.List.{List, [], ◌∷◌}
use lib.Dec.{eqb, ltb}
use borrow.Author.Tests.{eqb-true, ltb-true}
use Rattle.layout.specs.declared.Role.{Role}
use Rattle.layout.specs.declared.Role.TheVariants.{Data, Move}
use Rattle.layout.specs.declared.Motion.TheVariants.{Skip, Back, Goto}
use Rattle.layout.specs.Layout.{type_of}
use Rattle.layout.specs.inside.Parsing.{FitRole}
use Rattle.layout.proofs.Laws.{AllSound}
use Rattle.describe.specs.Placed.{Placed, fields_in}
use Rattle.describe.specs.Places.{MadeOf}

abbrev pub is_goto : Role → Bool
is_goto (Data s) = false
is_goto (Move Skip) = false
is_goto (Move Back) = false
is_goto (Move Goto) = true

pub record Letter (c : ℕ) (k : Role) : Type 0 where
  pub goto : eqb c 64 ≡ is_goto k
  pub fit : FitRole k
  pub small : c < 128

-- ---- letter by letter

abbrev Told : ℕ → Option Role → Type 0
Told c (Some k) = Letter c k
Told c None = Unit {0}

module _ (c : ℕ) where
  other : (n : ℕ) (k : Role) (rest : Option Role) → ltb n 128 ≡ true → eqb n 64 ≡ is_goto k → FitRole k → Told c rest
      → Told c (if eqb c n then Some k else rest)
  other n k rest l g f h = go (eqb c n) refl
    where
      go : (t : Bool) → eqb c n ≡ t → Told c (if t then Some k else rest)
      go true e =
          let same : n ≡ c = sym (eqb-true c n e) in subst (λ (x : ℕ). Letter x k) same (record { goto = g; fit = f; small = ltb-true n 128 l })
      go false e = h

  letter : Told c (type_of c)
  unfolding type_of
  letter =
      other 97 _ _ refl refl tt
      (other 65 _ _ refl refl tt
      (other 98 _ _ refl refl tt
      (other 66 _ _ refl refl tt
      (other 104 _ _ refl refl tt
      (other 72 _ _ refl refl tt
      (other 99 _ _ refl refl (omega arith, omega arith)
      (other 115 _ _ refl refl (omega arith, omega arith)
      (other 83 _ _ refl refl (omega arith, omega arith)
      (other 105 _ _ refl refl (omega arith, omega arith)
      (other 73 _ _ refl refl (omega arith, omega arith)
      (other 119 _ _ refl refl (omega arith, omega arith)
      (other 87 _ _ refl refl (omega arith, omega arith)
      (other 114 _ _ refl refl tt
      (other 82 _ _ refl refl tt
      (other 113 _ _ refl refl tt
      (other 81 _ _ refl refl tt
      (other 120 _ _ refl refl tt
      (other 88 _ _ refl refl tt
      (last (eqb c 64) refl)))))))))))))))))))
    where
      last : (t : Bool) → eqb c 64 ≡ t → Told c (if t then Some (Move Goto) else None)
      last true e = record { goto = e; fit = tt; small = let same : c ≡ 64 = eqb-true c 64 e in omega arith }
      last false e = tt

  letter-told : (k : Role) → type_of c ≡ Some k → Letter c k
  letter-told k e = rw e at letter

-- ---- all fields

abbrev pub AllLetters : List Placed → Type 0
AllLetters [] = Unit {0}
AllLetters (p ∷ ps) = Letter p.letter p.what.role × AllLetters ps

pub made-letters : (packing : Bool) (text : List ℕ) (at : ℕ) (ps : List Placed) → MadeOf packing text at ps
    → AllLetters ps
made-letters packing text at [] m = tt
made-letters packing text at (p ∷ ps) m =
    (letter-told p.letter p.what.role m.0.type, made-letters packing text (p.place + p.size) ps m.1)

pub letters-sound : (ps : List Placed) → AllLetters ps → AllSound (fields_in ps)
letters-sound [] h = tt
letters-sound (p ∷ ps) h = (h.0.fit, letters-sound ps h.1)
