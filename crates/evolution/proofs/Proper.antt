-- What demand 3 reads back is proper: strings are, and an integer that was widened fits eight bytes, as a double does.
use Rattle.std.specs.Prelude.{if◌then◌else◌}
use Prim.Native.Nat.{ℕ, ◌+◌, ◌%◌, ◌^◌, ◌≤◌, ◌<◌}
use native.Mathlib.Nat.{mod-lt}
use native.Mathlib.Omega.{arith}
use mathlib.Core.Bool.{Bool, true, false}
use mathlib.Core.List.{List, [], ◌∷◌, map}
use lib.ListN.{take}
use lib.Dec.{leb}
use Rattle.layout.specs.declared.Role.{Role}
use Rattle.layout.specs.declared.Role.TheVariants.{Data, Move}
use Rattle.layout.specs.declared.Shape.{Shape}
use Rattle.layout.specs.declared.Shape.TheVariants.{Text, Digits, Integers, Reals}
use Rattle.layout.specs.declared.Count.{Count}
use Rattle.layout.specs.inside.Parsing.{FitRole}
use Rattle.real.specs.Narrowing.{single_of}
use Rattle.real.specs.Widening.{double_of}
use Rattle.real.proofs.WidenLaws.{double-below}
use Rattle.record.specs.Table.{Value}
use Rattle.record.specs.Geometry.{amount, bytes_for}
use Rattle.record.specs.Packing.{Filled}
use Rattle.record.specs.Reading.{widened}
use Rattle.record.proofs.Bytes.{All}
use Rattle.runs.proofs.Shown.{Proper, AllProper, true-false, widened-fits}
use Rattle.evolution.specs.Claim.{read_back, set_by}
use Rattle.evolution.proofs.Run.{Good, AllGood}

all-widened : (w : ℕ) (u : Bool) (xs : List ℕ) → w ≤ 8 → All (λ x. x < 2 ^ 64) (map (λ x. widened w u (x % 256 ^ w)) xs)
all-widened w u [] h = tt
all-widened w u (x ∷ xs) h = (widened-fits w u x h, all-widened w u xs h)

all-cut : (xs : List ℕ) → All (λ x. x < 2 ^ 64) (map (λ x. x % 256 ^ 8) xs)
all-cut [] = tt
all-cut (x ∷ xs) = (mod-lt x (omega arith), all-cut xs)

all-doubles : (xs : List ℕ) → All (λ x. x < 2 ^ 64) (map double_of (map (λ x. x % 256 ^ 4) xs))
all-doubles [] = tt
all-doubles (x ∷ xs) = (double-below (x % 256 ^ 4) (mod-lt x (omega arith)), all-doubles xs)

read-back-proper : (s : Shape) (u : Bool) (n : ℕ) (xs : List ℕ) → FitRole (Data s) → Proper (read_back s u n xs)
unfolding read_back
read-back-proper (Text pad) u n xs h e = true-false e
read-back-proper (Digits hex high) u n xs h e = true-false e
read-back-proper (Integers w big) u n xs h e = all-widened w u (take n xs) h.1
read-back-proper (Reals true big) u n xs h e = all-doubles (map single_of (take n xs))
read-back-proper (Reals false big) u n xs h e = all-cut (take n xs)

chosen : (t : Bool) (v : Value) (vs : List Value) → Proper v → AllProper vs → AllProper (if t then v ∷ vs else vs)
chosen true v vs h k = (h, k)
chosen false v vs h k = k

set-proper-step : (cut before : ℕ) (rest : List Filled) → ((b : ℕ) → AllProper (set_by cut b rest))
    → (k : Role) (u : Bool) (n : Count) (xs : List ℕ) → Good k n xs
    → AllProper (set_by cut before (record { field = record { role = k; unsigned = u; count = n }; items = xs } ∷ rest))
unfolding set_by
set-proper-step cut before rest ih (Data s) u n xs h =
    chosen (leb (before + bytes_for s (amount n 0)) cut) (read_back s u (amount n 0) xs) _ (read-back-proper s u (amount n 0) xs h.0) (ih _)
set-proper-step cut before rest ih (Move m) u n xs h = ih _

pub set-proper : (cut before : ℕ) (fs : List Filled) → AllGood fs → AllProper (set_by cut before fs)
unfolding set_by
set-proper cut before [] h = tt
set-proper cut before (a ∷ rest) h =
    set-proper-step cut before rest (λ b. set-proper cut b rest h.1) a.field.role a.field.unsigned a.field.count a.items h.0
