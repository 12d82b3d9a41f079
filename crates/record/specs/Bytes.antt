-- Runs of bytes and digits: parts, fitting to a length, cutting into pieces, and numerals in any base.
use Rattle.std.specs.Prelude.{ℕ, zero, suc, ◌+◌, ◌-◌, ◌*◌, ◌/◌, ◌%◌, Bool, true, false, List, [], ◌∷◌, ◌++◌, map, reverse, length, take, drop, replicate}

-- the n elements of xs from the place `start` on
abbrev pub part : List ℕ → ℕ → ℕ → List ℕ
part xs start n = take n (drop start xs)

-- xs with ys put over it from the place `at` on
abbrev pub store_at : List ℕ → ℕ → List ℕ → List ℕ
store_at xs at ys = take at xs ++ ys ++ drop (at + length ys) xs

-- xs cut to n elements, or padded with `pad`
unfoldable pub fit : ℕ → ℕ → List ℕ → List ℕ
fit n pad xs = take n xs ++ replicate (n - length xs) pad

-- n / m, rounded up
abbrev pub ceil_div : ℕ → ℕ → ℕ
ceil_div n m = (n + (m - 1)) / m

-- the first n pieces of k elements each
unfoldable pub pieces : ℕ → ℕ → List ℕ → List (List ℕ)
pieces k zero xs = []
pieces k (suc n) xs = take k xs ∷ pieces k n (drop k xs)

unfoldable pub join : List (List ℕ) → List ℕ
join [] = []
join (x ∷ xs) = x ++ join xs

-- the k lowest digits of n in base b, the lowest first; and the number that such digits make
unfoldable pub digits : ℕ → ℕ → ℕ → List ℕ
digits b zero n = []
digits b (suc k) n = n % b ∷ digits b k (n / b)

unfoldable pub number : ℕ → List ℕ → ℕ
number b [] = 0
number b (d ∷ ds) = d + b * number b ds

-- digits turned round (true), from lowest first to highest first or from highest first to lowest first; or as they are
-- (false)
abbrev pub ordered : Bool → List ℕ → List ℕ
ordered true ds = reverse ds
ordered false ds = ds

-- ---- numbers as bytes, the highest byte first

-- the w bytes of a number; and the number that the w bytes from the place `at` on make
unfoldable pub number_bytes : ℕ → ℕ → List ℕ
unfolding digits
number_bytes w x = ordered true (digits 256 w x)

unfoldable pub number_at : ℕ → List ℕ → ℕ → ℕ
unfolding number
number_at w bs at = number 256 (ordered true (part bs at w))

-- numbers of w bytes each, one after the other; and the n such numbers at the front of bs
unfoldable pub big_endian : ℕ → List ℕ → List ℕ
unfolding join number_bytes
big_endian w xs = join (map (number_bytes w) xs)

unfoldable pub big_endian_in : ℕ → ℕ → List ℕ → List ℕ
unfolding pieces number
big_endian_in w n bs = map (λ p. number 256 (ordered true p)) (pieces w n bs)
