-- The report of a comparison (02, M-102): a finding for each value field. The finding of two values is in the module
-- `difference`.
use Rattle.std.specs.Prelude.{ℕ, zero, suc, List, [], ◌∷◌, ◌++◌, drop}
use Rattle.compare.specs.Difference.{only_first, only_second, in_neither, plain_finding, both_finding}

-- The finding of a field, from the values that each reading set for it and the fields after it.
-- (A reading sets its fields from the first on and then no more: this field is set where any value is left.)
unfoldable pub finding_of : List (List ℕ) → List (List ℕ) → List ℕ
unfolding both_finding
finding_of [] [] = plain_finding in_neither
finding_of (x ∷ xs) [] = plain_finding only_first
finding_of [] (y ∷ ys) = plain_finding only_second
finding_of (x ∷ xs) (y ∷ ys) = both_finding x y

-- the findings of n value fields
unfoldable pub findings : ℕ → List (List ℕ) → List (List ℕ) → List ℕ
unfolding finding_of
findings zero xs ys = []
findings (suc n) xs ys = finding_of xs ys ++ findings n (drop 1 xs) (drop 1 ys)
