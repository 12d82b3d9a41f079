-- Numbers as a C host lends them (document 01, Slot tables): four bytes each, big-endian.
use Rattle.std.specs.Prelude.{ℕ, ◌/◌, List, length}
use Rattle.record.specs.Bytes.{big_endian, big_endian_in}

-- the bytes of a number
abbrev pub number_size : ℕ
number_size = 4

-- the numbers of a run of bytes, and the bytes of a run of numbers
unfoldable pub numbers_in : List ℕ → List ℕ
unfolding big_endian_in
numbers_in bs = big_endian_in number_size (length bs / number_size) bs

unfoldable pub numbers_bytes : List ℕ → List ℕ
unfolding big_endian
numbers_bytes xs = big_endian number_size xs
