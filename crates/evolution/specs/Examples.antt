-- Worked examples, computed from the definitions: the 13 checked examples of document 01, and more.
-- Each list is one statement, `CheckedHold` and `MoreHold`, proved in proofs/Examples.antt.
use Rattle.std.specs.Prelude.{ℕ, zero, suc, ◌+◌, ◌-◌, ◌*◌, ◌^◌, Bool, true, false, ◌&&◌, List, [], ◌∷◌, ◌++◌, map, length, take, drop, replicate, T, eqb}
use Prim.Native.String.{String}
use Rattle.layout.specs.Quoted.{bytes}
use Rattle.record.specs.declared.Answer.{Answer}
use Rattle.record.specs.Table.{slots_of, Value, shown, slot_numbers, value_bytes, slot_width}
use Rattle.record.specs.Packing.{Packed, pack}
use Rattle.record.specs.Reading.{Read, read}

-- ---- how an example is written

str : String → Value
str s = record { kind = 1; items = bytes s }

-- signed and unsigned integers as a slot holds them; -n
ints : List ℕ → Value
ints xs = record { kind = 2; items = xs }

uints : List ℕ → Value
uints xs = record { kind = 3; items = xs }

minus : ℕ → ℕ
minus n = 2 ^ 64 - n

pub data Example : Type 0 where
  -- layout, arguments, the record
  packing : String → List Value → List ℕ → Example
  -- record, layout, how many slots are lent, the values of those that are set
  reading : List ℕ → String → ℕ → List Value → Example
  -- layout, how many times one argument is lent, that argument, room; the answer's three numbers
  pack_answers : List ℕ → ℕ → Value → ℕ → List ℕ → Example
  -- layout, record, how many slots are lent, bytes of the area, mark; the answer's three numbers
  read_answers : List ℕ → List ℕ → ℕ → ℕ → ℕ → List ℕ → Example

-- ---- what it says

same : List ℕ → List ℕ → Bool
same [] [] = true
same [] (y ∷ ys) = false
same (x ∷ xs) [] = false
same (x ∷ xs) (y ∷ ys) = eqb x y && same xs ys

same_values : List Value → List Value → Bool
unfolding same
same_values [] [] = true
same_values [] (y ∷ ys) = false
same_values (x ∷ xs) [] = false
same_values (x ∷ xs) (y ∷ ys) = eqb x.kind y.kind && same x.items y.items && same_values xs ys

numbers : Answer → List ℕ
numbers a = a.number ∷ a.first ∷ a.second ∷ []

-- the output lent holds sixteen bytes 170, which stay after the record
packs_to : List ℕ → Packed → Bool
unfolding same numbers
packs_to bs r =
    same (numbers r.answer) (0 ∷ length bs ∷ 0 ∷ [])
    && same r.output (bs ++ drop (length bs) (replicate 16 170))

-- the slots lent hold nines and the area 170s, which stay where no value is put; the mark is 5
reads_to : ℕ → List Value → Read → Bool
unfolding same same_values numbers
reads_to n vs r =
    let end = 5 + length (value_bytes vs) in
    same (numbers r.answer) (0 ∷ length vs ∷ end ∷ [])
    && same_values (map (shown r.area) (take (length vs) (slots_of r.slots))) vs
    && same (drop (slot_width * length vs) r.slots) (replicate (slot_width * n - slot_width * length vs) 9)
    && same (take 5 r.area) (replicate 5 170)
    && same (drop end r.area) (replicate (64 - end) 170)

times : ℕ → List ℕ → List ℕ
times zero xs = []
times (suc n) xs = xs ++ times n xs

pub holds : Example → Bool
unfolding packs_to reads_to pack read slot_numbers value_bytes times numbers
holds (packing layout args bs) = packs_to bs (pack (bytes layout) (slot_numbers 0 [] args) (value_bytes args) (replicate 16 170))
holds (reading bs layout n vs) = reads_to n vs (read (bytes layout) bs (replicate (slot_width * n) 9) (replicate 64 170) 5)
holds (pack_answers layout n arg room answer) =
    let slots = times n (slot_numbers 0 [] (arg ∷ [])) in
    same (numbers (pack layout slots (value_bytes (arg ∷ [])) (replicate room 170)).answer) answer
holds (read_answers layout bs n size mark answer) =
    same (numbers (read layout bs (replicate (slot_width * n) 9) (replicate size 170) mark).answer) answer

unfoldable pub all : List Example → Bool
unfolding holds
all [] = true
all (e ∷ es) = holds e && all es

-- ---- document 01, "Checked examples", 1 to 13 in its order (11 and 13 are two calls each)

unfoldable pub checked : List Example
unfolding str ints uints minus
checked =
    packing "b5b*" (str "11100" ∷ str "111000011010" ∷ []) (0x07 ∷ 0x87 ∷ 0x05 ∷ [])
    ∷ packing "B5B*" (str "11100" ∷ str "111000011010" ∷ []) (0xe0 ∷ 0xe1 ∷ 0xa0 ∷ [])
    ∷ packing "H3H*H2" (str "ab" ∷ str "DEF" ∷ str "987" ∷ []) (0xab ∷ 0x00 ∷ 0xde ∷ 0xf0 ∷ 0x98 ∷ [])
    ∷ packing "h3h*h2" (str "AB" ∷ str "def" ∷ str "987" ∷ []) (0xba ∷ 0x00 ∷ 0xed ∷ 0x0f ∷ 0x89 ∷ [])
    ∷ packing "c3cc*" (ints (3 ∷ minus 3 ∷ 128 ∷ 1 ∷ []) ∷ ints (260 ∷ []) ∷ ints (2 ∷ 5 ∷ []) ∷ [])
    (0x03 ∷ 0xfd ∷ 0x80 ∷ 0x04 ∷ 0x02 ∷ 0x05 ∷ [])
    ∷ packing "a3X*a3X2a3" (str "abc" ∷ str "def" ∷ str "ghi" ∷ []) (bytes "dghi")
    ∷ packing "a5@2a1@*a3@10a1" (str "abcde" ∷ str "f" ∷ str "ghi" ∷ str "j" ∷ []) (bytes "abfdeghi" ++ (0 ∷ 0 ∷ bytes "j"))
    ∷ reading (0x07 ∷ 0x87 ∷ 0x05 ∷ []) "b5b*" 2 (str "11100" ∷ str "1110000110100000" ∷ [])
    ∷ reading (0x05 ∷ 0x00 ∷ 0x07 ∷ 0x00 ∷ 0xf0 ∷ 0xff ∷ []) "s2s*" 2 (ints (5 ∷ 7 ∷ []) ∷ ints (minus 16 ∷ []) ∷ [])
    ∷ reading (bytes "abcdefg") "s3s" 2 (ints (25185 ∷ 25699 ∷ 26213 ∷ []) ∷ [])
    ∷ reading (0x00 ∷ 0x80 ∷ []) "su" 1 (uints (32768 ∷ []) ∷ [])
    ∷ reading (0x00 ∷ 0x80 ∷ []) "s" 1 (ints (minus 32768 ∷ []) ∷ [])
    ∷ reading (0x41 ∷ []) "s*" 1 (ints [] ∷ [])
    ∷ reading [] "c" 1 []
    ∷ reading [] "a0" 1 (str "" ∷ [])
    ∷ []

-- ALL CHECKED EXAMPLES HOLD
abbrev pub CheckedHold : Type 0
CheckedHold = T (all checked)

-- ---- more examples, each for something that the thirteen leave open; the other examples of 001 to 003 are run by the
-- program `tour`

unfoldable pub more : List Example
unfolding str ints minus
more =
    -- integers of several bytes, in both byte orders
    packing "s3" (ints (3 ∷ minus 3 ∷ 258 ∷ 1 ∷ []) ∷ []) (0x03 ∷ 0x00 ∷ 0xfd ∷ 0xff ∷ 0x02 ∷ 0x01 ∷ [])
    ∷ packing "S3" (ints (3 ∷ minus 3 ∷ 258 ∷ 1 ∷ []) ∷ []) (0x00 ∷ 0x03 ∷ 0xff ∷ 0xfd ∷ 0x01 ∷ 0x02 ∷ [])
    ∷ packing "w" (ints (7810179016327718216 ∷ []) ∷ []) (bytes "HelloTcl")
    ∷ packing "Wc" (ints (4785469626960341345 ∷ []) ∷ ints (110 ∷ []) ∷ []) (bytes "BigEndian")
    -- text: padded by spaces, and blanks at the end dropped
    ∷ packing "A6A*A" (str "alpha" ∷ str "bravo" ∷ str "charlie" ∷ []) (bytes "alpha bravoc")
    ∷ reading (bytes "abc efghi  " ++ (0 ∷ [])) "A*" 1 (str "abc efghi" ∷ [])
    -- digits: low half first; after a move into the bytes of the field before; one beyond the count is not looked at
    ∷ reading (0x07 ∷ 0x86 ∷ 0x05 ∷ 0x12 ∷ 0x34 ∷ []) "h3h*" 2 (str "706" ∷ str "502143" ∷ [])
    ∷ reading (0x01 ∷ 0x02 ∷ 0x03 ∷ 0x04 ∷ []) "c2@1H*" 2 (ints (1 ∷ 2 ∷ []) ∷ str "020304" ∷ [])
    ∷ pack_answers (bytes "b2") 1 (str "10z") 1 (0 ∷ 1 ∷ 0 ∷ [])
    -- a count that is too large is refused at its first digit, a leading zero too
    ∷ pack_answers (bytes "c x32769") 1 (ints (1 ∷ [])) 4096 (3 ∷ 3 ∷ 0 ∷ [])
    ∷ pack_answers (bytes "cu00050000") 1 (ints (1 ∷ [])) 4096 (3 ∷ 2 ∷ 0 ∷ [])
    -- 65 slots; a result longer than its buffer; in reading `x*` goes to the end and is not refused
    ∷ pack_answers (replicate 65 97) 65 (str "M") 65 (1 ∷ 0 ∷ 0 ∷ [])
    ∷ pack_answers (bytes "x4096x") 0 (str "") 4096 (11 ∷ 0 ∷ 0 ∷ [])
    ∷ read_answers (bytes "x*c") (1 ∷ 2 ∷ []) 1 8 3 (0 ∷ 0 ∷ 3 ∷ [])
    -- a flag after a type that is no integer's changes nothing; a second one names no type
    ∷ packing "au3xu2" (str "Mar" ∷ []) (bytes "Mar" ++ (0 ∷ 0 ∷ []))
    ∷ reading (bytes "Mar") "au3" 1 (str "Mar" ∷ [])
    ∷ pack_answers (bytes "auu") 1 (str "M") 1 (2 ∷ 2 ∷ 0 ∷ [])
    ∷ pack_answers (bytes "c @u") 1 (ints (1 ∷ [])) 1 (4 ∷ 2 ∷ 0 ∷ [])
    ∷ []

abbrev pub MoreHold : Type 0
MoreHold = T (all more)
