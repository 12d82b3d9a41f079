-- Reals that were packed and read are packed again (02, M-108): what was narrowed once stays as it is.
use Rattle.std.specs.Prelude.{ℕ, ◌^◌, ◌≤◌, ◌<◌, ◌≡◌, Bool, true, List, length, take, get_or}
use Rattle.layout.specs.declared.Shape.TheVariants.{Reals}
use Rattle.record.specs.Packing.{patterns, stored, reals_fit}
use Rattle.record.specs.Reading.{doubles}
use Rattle.evolution.specs.Claim.{read_back}

-- what comes back of an argument's reals xs, in a field of n items
abbrev pub came_back : Bool → Bool → Bool → ℕ → List ℕ → List ℕ
came_back single big u n xs = (read_back (Reals single big) u n xs).items

pub record PacksAgain (single big u : Bool) (n : ℕ) (xs : List ℕ) : Type 0 where
  -- what comes back: of `r R` the doubles of the nearest singles, of `q Q` the doubles themselves
  pub values : came_back single big u n xs ≡ doubles single (patterns single (take n xs))
  -- number 16 does not apply to what came back
  pub served : reals_fit (Reals single big) n (came_back single big u n xs) ≡ true
  -- what came back is stored as the bytes that it was read from
  pub same : stored (Reals single big) n (came_back single big u n xs) ≡ stored (Reals single big) n xs

-- `PacksAgain` holds for all doubles
abbrev pub RealsAgain : Type 0
RealsAgain =
    (single big u : Bool) (n : ℕ) (xs : List ℕ) → n ≤ length xs → ((i : ℕ) → get_or xs i 0 < 2 ^ 64)
    → PacksAgain single big u n xs
