-- Laws of two values that are both set: what lies past the common length changes neither place nor bits.
use Prim.Native.Nat.{ℕ, min}
use native.Mathlib.Omega.{arith}
use mathlib.Core.Path.{◌≡◌, ◌∙◌}
use mathlib.Core.Bool.{Bool, true, false}
use mathlib.Core.List.{List, [], ◌∷◌}
use lib.ListN.{length, take}
use Rattle.compare.specs.Difference.{same_bytes, first_difference, differing_bits, both_same, both_differ, plain_finding, both_finding}
use Rattle.compare.proofs.difference.Runs.{difference-common}
use Rattle.compare.proofs.difference.Bits.{bits-common}

module _ (xs ys : List ℕ) {t : Bool} (test : t ≡ same_bytes xs ys) where
  pub both-same : t ≡ true → plain_finding both_same ≡ both_finding xs ys
  unfolding both_finding
  both-same e = rw (← test, e)

  pub both-differ : t ≡ false → {common place bits : ℕ} → common ≡ min (length xs) (length ys) → place ≡ first_difference (take common xs) (take common ys)
      → bits ≡ differing_bits (take common xs) (take common ys) → both_differ ∷ place ∷ bits ∷ [] ≡ both_finding xs ys
  unfolding both_finding
  both-differ e {common} least p q = rw (← test, e, p ∙ difference-common common xs ys (omega arith), q ∙ bits-common common xs ys (omega arith))
