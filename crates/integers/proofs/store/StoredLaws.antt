-- Laws of integers that are stored: the bytes of one, and those of many, one after the other.
use Prim.Native.Nat.{ℕ, ◌+◌, ◌-◌, ◌*◌, ◌≤◌, ◌<◌}
use native.Mathlib.Nat.{add-zero}
use native.Mathlib.Omega.{arith}
use mathlib.Core.Path.{◌≡◌, refl, sym, ap, ◌∙◌}
use mathlib.Core.Bool.{Bool, true, false, not}
use mathlib.Core.List.{List, ◌++◌, map, reverse, reverse-append, reverse-reverse}
use lib.ListN.{length, take, drop, get_or, length-drop, length-reverse, length-map, take-append-drop}
use lib.Seq.{take_at, take_all, drop-drop}
use Rattle.layout.specs.declared.Shape.TheVariants.{Integers}
use Rattle.record.specs.Bytes.{part, pieces, join, digits, number, ordered, big_endian_in}
use Rattle.record.specs.Table.{integers_in}
use Rattle.record.specs.Packing.{stored, low_bytes}
use Rattle.record.proofs.Bytes.{all-ordered, length-pieces, drop-take}
use Rattle.record.proofs.Fields.{item}
use Rattle.record.proofs.NumberLaws.{part_bytes}
use Rattle.record.proofs.Stores.{runs, length_part}
use Rattle.record.proofs.Widening.{low-digits}
use Rattle.integers.specs.inside.Eights.{eights}
use Rattle.integers.proofs.IntegerLaws.{runs_same, joined, eight_at, eights-runs}

-- ---- one integer

turned-ordered : (big : Bool) (xs : List ℕ) → ordered big (reverse xs) ≡ ordered (not big) xs
turned-ordered true xs = reverse-reverse xs
turned-ordered false xs = refl

-- what a run begins with when it is turned round is its end
take-reverse : (k : ℕ) (xs : List ℕ) → k ≤ length xs → take (length xs - k) (reverse xs) ≡ reverse (drop k xs)
take-reverse k xs h =
    let whole : reverse xs ≡ reverse (drop k xs) ++ reverse (take k xs) = ap reverse (sym (take-append-drop k xs)) ∙ reverse-append (take k xs) (drop k xs) in
    ap (take (length xs - k)) whole ∙ take_at (reverse (drop k xs)) (reverse (take k xs)) (length xs - k) (length-reverse (drop k xs) ∙ length-drop k xs)

-- stored: the last w bytes of its eight, in the field's order
pub stored-item : (area : List ℕ) (at w : ℕ) (big : Bool) → ((i : ℕ) → get_or area i 0 < 256) → w ≤ 8 → at + 8 ≤ length area
    → ordered (not big) (part area (at + (8 - w)) w) ≡ item w big (number 256 (ordered true (part area at 8)))
unfolding item
stored-item area at w big small narrow inside =
    let p : List ℕ = part area at 8 in
    let long : length p ≡ 8 = length_part 8 at area inside in
    let low : digits 256 w (number 256 (reverse p)) ≡ take w (reverse p) =
    low-digits 256 w (reverse p) (rw (length-reverse, long) narrow) (all-ordered (λ d. d < 256) true p (part_bytes area at 8 small)) in
    let left : w ≡ length p - (8 - w) = omega arith in
    let end : take w (reverse p) ≡ reverse (drop (8 - w) p) = ap (λ (k : ℕ). take k (reverse p)) left ∙ take-reverse (8 - w) p (omega arith) in
    let count : 8 - (8 - w) ≡ w = omega arith in
    let last : drop (8 - w) p ≡ part area (at + (8 - w)) w = drop-take (8 - w) 8 (drop at area) ∙ rw (count, drop-drop (8 - w) at area) in
    sym (ap (ordered big) (low ∙ end ∙ ap reverse last) ∙ turned-ordered big (part area (at + (8 - w)) w))

-- ---- n integers

-- integer i of those that stand in the area, in its field
abbrev pub stored_at : List ℕ → ℕ → ℕ → Bool → ℕ → List ℕ
stored_at area start w big i = item w big (number 256 (ordered true (part area (start + i * 8) 8)))

pub stored-runs : (area : List ℕ) (start w : ℕ) (big : Bool) (n : ℕ) → runs n (stored_at area start w big) ≡ stored (Integers w big) n (integers_in n (drop start area))
unfolding stored low_bytes big_endian_in item
stored-runs area start w big n =
    let h : List ℕ → ℕ = λ p. number 256 (reverse p) in
    let xs : List ℕ = map h (pieces 8 n (drop start area)) in
    let long : length xs ≡ n = length-map (pieces 8 n (drop start area)) h ∙ length-pieces 8 n (drop start area) in
    let all : length xs ≤ n = omega arith in
    sym (ap (λ (ys : List ℕ). join (map (λ x. ordered big (digits 256 w x)) ys)) (take_all n xs all) ∙ joined (λ x. ordered big (digits 256 w x)) h 8 area n start)

-- one integer alone
pub stored_one : (area : List ℕ) (start w : ℕ) (big : Bool) → ((i : ℕ) → get_or area i 0 < 256) → w ≤ 8 → start + 8 ≤ length area
    → ordered (not big) (part area (start + (8 - w)) w) ≡ stored (Integers w big) 1 (integers_in 1 (drop start area))
unfolding runs
stored_one area start w big small narrow inside =
    let here : start ≡ start + 0 * 8 = omega arith in
    stored-item area start w big small narrow inside ∙ ap (λ (p : ℕ). item w big (number 256 (ordered true (part area p 8)))) here ∙ stored-runs area start w big 1

-- runs of eight bytes, as integers of the area that are stored
pub eights-stored : (area : List ℕ) (start : ℕ) (big : Bool) (n : ℕ) → ((i : ℕ) → get_or area i 0 < 256) → start + n * 8 ≤ length area
    → eights (not big) n (drop start area) ≡ stored (Integers 8 big) n (integers_in n (drop start area))
eights-stored area start big n small inside =
    let one : (i : ℕ) → i < n → eight_at (not big) area start i ≡ stored_at area start 8 big i =
    λ i h. rw add-zero at (stored-item area (start + i * 8) 8 big small (omega arith) (omega arith)) in
    eights-runs (not big) area start n ∙ runs_same n _ _ one ∙ stored-runs area start 8 big n
