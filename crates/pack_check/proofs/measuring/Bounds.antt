-- Bounds of the numbers that the passes compute.
use Prim.Native.Nat.{ℕ, ◌+◌, ◌≤◌, ◌<◌}
use native.Mathlib.Omega.{arith}
use Rattle.layout.specs.declared.Role.{Role}
use Rattle.layout.specs.declared.Role.TheVariants.{Data, Move}
use Rattle.layout.specs.declared.Motion.TheVariants.{Skip, Back, Goto}
use Rattle.layout.specs.declared.Count.{Count}
use Rattle.layout.specs.inside.Parsing.{FitRole, FitCount}
use Rattle.record.specs.declared.Cursor.{Cursor}
use Rattle.record.specs.Geometry.{amount}
use Rattle.record.proofs.Moves.{amount-small}
use Rattle.record.proofs.Bounds.{bytes_small}
use Rattle.pack_check.specs.inside.measuring.{advance}

-- the cursor is not past the end
pub advance-within : (c : Cursor) (k : Role) (n : Count) (have : ℕ) → c.at ≤ c.end → (advance c k n have).at ≤ (advance c k n have).end
advance-within c (Data s) n have h = omega arith
advance-within c (Move Skip) n have h = omega arith
advance-within c (Move Back) n have h = omega arith
advance-within c (Move Goto) n have h = omega arith

-- a field moves the end by less than 2 ^ 36 bytes
pub advance-small : (c : Cursor) (k : Role) (n : Count) (have : ℕ) → c.at ≤ c.end → FitRole k → FitCount n → have < 4294967296 → (advance c k n have).end ≤ c.end + 68719476736
advance-small c (Data s) n have w h m l = omega (arith, amount-small n have m, bytes_small s (amount n have) h)
advance-small c (Move Skip) n have w h m l = omega (arith, amount-small n 0 m)
advance-small c (Move Back) n have w h m l = omega arith
advance-small c (Move Goto) n have w h m l = omega (arith, amount-small n c.end m)
