-- What a C host may count on of numbers as bytes (document 01, Slot tables): what was put in as bytes is taken out
-- again, and runs that are joined hold what each of them holds. The proofs are in proofs/numbers/Claims.antt.
use Rattle.std.specs.Prelude.{ℕ, ◌%◌, ◌<◌, ◌≡◌, List, ◌++◌, length, get_or}
use Rattle.record.specs.Table.{number_limit}
use Rattle.host.specs.Numbers.{number_size, numbers_in, numbers_bytes}

-- numbers of 32 bits come back from their bytes
abbrev pub NumbersBack : Type 0
NumbersBack = (xs : List ℕ) → ((i : ℕ) → get_or xs i 0 < number_limit) → numbers_in (numbers_bytes xs) ≡ xs

-- bytes of whole numbers come back from those numbers
abbrev pub BytesBack : Type 0
BytesBack =
    (bs : List ℕ) → length bs % number_size ≡ 0 → ((i : ℕ) → get_or bs i 0 < 256) → numbers_bytes (numbers_in bs) ≡ bs

-- joined runs, of which the first has whole numbers, hold the numbers of the one and then those of the other
abbrev pub NumbersJoined : Type 0
NumbersJoined = (bs cs : List ℕ) → length bs % number_size ≡ 0 → numbers_in (bs ++ cs) ≡ numbers_in bs ++ numbers_in cs

abbrev pub BytesJoined : Type 0
BytesJoined = (xs ys : List ℕ) → numbers_bytes (xs ++ ys) ≡ numbers_bytes xs ++ numbers_bytes ys
