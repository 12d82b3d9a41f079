-- What is fixed of a position and of the bytes of a field stays far below what wraps, field after field.
use Rattle.std.specs.declared.option.Option.TheVariants.{Some, None}
use Prim.Native.Nat.{ℕ, ◌+◌, ◌-◌, ◌≤◌, ◌<◌, min}
use native.Mathlib.Omega.{arith}
use mathlib.Core.Path.{◌≡◌, ap, ◌∙◌}
use mathlib.Core.Bool.{true}
use borrow.Author.Tests.{leb-true}
use Rattle.layout.specs.declared.Role.{Role}
use Rattle.layout.specs.declared.Role.TheVariants.{Data, Move}
use Rattle.layout.specs.declared.Shape.{Shape}
use Rattle.layout.specs.declared.Motion.{Motion}
use Rattle.layout.specs.declared.Motion.TheVariants.{Skip, Back, Goto}
use Rattle.layout.specs.declared.Count.{Count}
use Rattle.layout.specs.declared.Count.TheVariants.{Absent, Star, Times}
use Rattle.layout.specs.Layout.{max_count, in_limit}
use Rattle.layout.specs.inside.Parsing.{FitRole, FitCount}
use Rattle.record.proofs.Bounds.{bytes_small}
use Rattle.describe.specs.declared.fields.Track.{Track}
use Rattle.describe.specs.Rows.{Extent, plus, highest, less, asked, filling, back, position_after, onward}
use Rattle.describe.specs.inside.Walk.{AtMost, field_reach, layout_reach}

pub sum_fits : (a b : Extent) (m n : ℕ) → AtMost layout_reach a → AtMost layout_reach b → a ≡ Some m → b ≡ Some n
    → m + n < 18446744073709551616
sum_fits a b m n h k e f =
    let p : AtMost layout_reach (Some m) = rw e at h in
    let q : AtMost layout_reach (Some n) = rw f at k in
    omega arith

pub less-fixed : (a : Extent) (m n r : ℕ) → a ≡ Some m → r ≡ min m n → Some (m - r) ≡ less a n
less-fixed a m n r e f = let same : m - r ≡ m - n = omega arith in rw e (ap Some same)

pub asked-small : (n : Count) → FitCount n → AtMost layout_reach (asked n None)
asked-small Absent h = omega arith
asked-small Star h = tt
asked-small (Times n) h = omega arith

pub filling-small : (k : Role) (n : Count) → FitRole k → FitCount n → AtMost layout_reach (filling k n)
filling-small (Data s) Absent h l = omega (arith, bytes_small s 1 h)
filling-small (Data s) Star h l = tt
filling-small (Data s) (Times n) h l = omega (arith, bytes_small s n h)
filling-small (Move Skip) n h l = asked-small n l
filling-small (Move Back) n h l = omega arith
filling-small (Move Goto) n h l = omega arith

-- the arms of `position_after`
module _ (t : Track) (k : Role) (n : Count) (b r : Extent) (fills : b ≡ filling k n) (sum : r ≡ plus t.at b) where
  pub position-after-value : (s : Shape) → k ≡ Data s → r ≡ position_after t k n
  position-after-value s e = rw e (sum ∙ ap (plus t.at) (fills ∙ ap (λ (c : Role). filling c n) e))

  pub position-after-skip : (m : Motion) → k ≡ Move m → m ≡ Skip → r ≡ position_after t k n
  position-after-skip m e z =
      let skip : k ≡ Move Skip = e ∙ ap Move z in
      rw skip (sum ∙ ap (plus t.at) (fills ∙ ap (λ (c : Role). filling c n) skip))

-- ---- how far a field reaches

pub most-more : (m n : ℕ) (a : Extent) → m ≤ n → AtMost m a → AtMost n a
most-more m n (Some a) l h = omega arith
most-more m n None l h = tt

plus-most : (m n : ℕ) (a b : Extent) → AtMost m a → AtMost n b → AtMost (m + n) (plus a b)
plus-most m n (Some a) (Some b) h k = omega arith
plus-most m n (Some a) None h k = tt
plus-most m n None b h k = tt

highest-most : (m : ℕ) (a b : Extent) → AtMost m a → AtMost m b → AtMost m (highest a b)
highest-most m (Some a) (Some b) h k = omega arith
highest-most m (Some a) None h k = tt
highest-most m None b h k = tt

less-most : (m : ℕ) (a : Extent) (n : ℕ) → AtMost m a → AtMost m (less a n)
less-most m (Some a) n h = omega arith
less-most m None n h = tt

back-most : (m : ℕ) (a : Extent) (n : Count) → AtMost m a → AtMost m (back a n)
back-most m a Absent h = less-most m a 1 h
back-most m a Star h = omega arith
back-most m a (Times n) h = less-most m a n h

asked-most : (n : Count) (m : ℕ) (all : Extent) → in_limit n ≡ true → AtMost m all → AtMost (m + max_count) (asked n all)
asked-most Absent m all l h = omega arith
asked-most Star m all l h = most-more m (m + max_count) all (omega arith) h
asked-most (Times n) m all l h = omega (arith, leb-true n max_count l)

pub filling-most : (k : Role) (n : Count) → FitRole k → in_limit n ≡ true → AtMost field_reach (filling k n)
filling-most (Data s) Absent h l = omega (arith, bytes_small s 1 h)
filling-most (Data s) Star h l = tt
filling-most (Data s) (Times n) h l = omega (arith, bytes_small s n h, leb-true n max_count l)
filling-most (Move Skip) n h l =
    most-more (0 + max_count) field_reach (asked n None) (omega arith) (asked-most n 0 None l tt)
filling-most (Move Back) n h l = omega arith
filling-most (Move Goto) n h l = omega arith

-- all that is fixed of a track is at most this
abbrev pub Near : ℕ → Track → Type 0
Near m t = AtMost m t.at × AtMost m t.highest

module _ (m : ℕ) (t : Track) (near : Near m t) (n : Count) (limit : in_limit n ≡ true) where
  position-after-most : (k : Role) → FitRole k → AtMost (m + field_reach) (position_after t k n)
  position-after-most (Data s) h =
      plus-most m field_reach t.at (filling (Data s) n) near.0 (filling-most (Data s) n h limit)
  position-after-most (Move Skip) h =
      plus-most m field_reach t.at (filling (Move Skip) n) near.0 (filling-most (Move Skip) n h limit)
  position-after-most (Move Back) h =
      most-more m (m + field_reach) (back t.at n) (omega arith) (back-most m t.at n near.0)
  position-after-most (Move Goto) h =
      most-more (m + max_count) (m + field_reach) (asked n t.highest) (omega arith) (asked-most n m t.highest limit near.1)

  pub onward_near : (k : Role) → FitRole k → Near (m + field_reach) (onward t k n)
  onward_near k h =
      let there : AtMost (m + field_reach) (position_after t k n) = position-after-most k h in
      (there, highest-most (m + field_reach) t.highest (position_after t k n) (most-more m (m + field_reach) t.highest (omega arith) near.1) there)
