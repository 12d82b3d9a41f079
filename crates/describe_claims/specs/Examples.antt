-- Worked examples of the call, computed from the definitions. All are one statement, proved in proofs/Examples.antt.
use Rattle.std.specs.Prelude.{ℕ, ◌+◌, ◌*◌, Bool, true, false, ◌&&◌, List, [], ◌∷◌, ◌++◌, length, replicate, eqb}
use Prim.Native.String.{String}
use Rattle.layout.specs.Quoted.{bytes}
use Rattle.record.specs.Bytes.{join, big_endian}
use Rattle.record.specs.Packing.{Packed}
use Rattle.describe.specs.Rows.{none, star, number_size, row_size, listed}

pub data Example : Type 0 where
  -- a layout, how many bytes the run has after the rows, and the rows
  lists : String → ℕ → List (List ℕ) → Example
  -- a layout, how many bytes the run has, and the number and the place of the refusal
  refuses : String → ℕ → ℕ → ℕ → Example
  -- how many `c` the layout has, how many bytes the run has, and the number and the place of the refusal
  too_long : ℕ → ℕ → ℕ → ℕ → Example

-- a row: place, size, letter, flag, count, slot, position, bytes
unfoldable row : ℕ → ℕ → String → ℕ → ℕ → ℕ → ℕ → ℕ → List ℕ
row place size letter flag count slot position filled =
    (place ∷ size ∷ []) ++ bytes letter ++ (flag ∷ count ∷ slot ∷ position ∷ filled ∷ [])

unfoldable same : List ℕ → List ℕ → Bool
same [] [] = true
same [] (y ∷ ys) = false
same (x ∷ xs) [] = false
same (x ∷ xs) (y ∷ ys) = eqb x y && same xs ys

-- a call leaves these: the answer's three numbers, and every byte of the run
abbrev leaves : Packed → ℕ → ℕ → List ℕ → Bool
leaves p n first output =
    eqb p.answer.number n && eqb p.answer.first first && eqb p.answer.second 0 && same p.output output

-- the call does what an example says; the run is lent full of bytes 170
pub holds : Example → Bool
unfolding listed same join big_endian
holds (lists layout spare rows) =
    leaves (listed (bytes layout) (replicate (length rows * row_size + spare) 170)) 0 (length rows)
    (big_endian number_size (join rows) ++ replicate spare 170)
holds (refuses layout room n place) = leaves (listed (bytes layout) (replicate room 170)) n place (replicate room 170)
holds (too_long size room n place) =
    leaves (listed (replicate size 99) (replicate room 170)) n place (replicate room 170)

unfoldable pub all : List Example → Bool
unfolding holds
all [] = true
all (e ∷ es) = holds e && all es

unfoldable pub examples : List Example
unfolding row
examples =
    -- a starred value leaves all after it open; an `@` with a count and `X*` do not
    lists "a6 A12 Su  Su*X2 x* c @10 b12 @* X* c" 5 (
    row 0 2 "a" 0 6 0 0 6
    ∷ row 3 3 "A" 0 12 1 6 12
    ∷ row 7 2 "S" 1 none 2 18 2
    ∷ row 11 3 "S" 1 star 3 20 none
    ∷ row 14 2 "X" 0 2 none none 0
    ∷ row 17 2 "x" 0 star none none none
    ∷ row 20 1 "c" 0 none 4 none 1
    ∷ row 22 3 "@" 0 10 none none 0
    ∷ row 26 3 "b" 0 12 5 10 2
    ∷ row 30 2 "@" 0 star none 12 0
    ∷ row 33 2 "X" 0 star none none 0
    ∷ row 36 1 "c" 0 none 6 0 1
    ∷ []
    )
    -- without a starred value all is fixed: `@*` goes to the highest position, and `X` back no further than to 0
    ∷ lists "@5 X3 x2 @* q2X*Xu9" 0 (
    row 0 2 "@" 0 5 none 0 0
    ∷ row 3 2 "X" 0 3 none 5 0
    ∷ row 6 2 "x" 0 2 none 2 2
    ∷ row 9 2 "@" 0 star none 4 0
    ∷ row 12 2 "q" 0 2 0 5 16
    ∷ row 14 2 "X" 0 star none 21 0
    ∷ row 16 3 "X" 1 9 none 0 0
    ∷ []
    )
    -- a count of 0, leading zeros, the flag after any type, spaces before and after
    ∷ lists " h3xu02a0 Iu003 " 33 (
    row 1 2 "h" 0 3 0 0 2
    ∷ row 3 4 "x" 1 2 none 2 2
    ∷ row 7 2 "a" 0 0 1 4 0
    ∷ row 10 5 "I" 1 3 2 4 12
    ∷ []
    )
    ∷ lists "" 0 []
    ∷ lists "  " 31 []
    -- refused as reading would: an unknown type, a count over the limit, an `@` without a count; then a run that is too
    -- short
    ∷ refuses "c3 k" 0 2 3
    ∷ refuses "c c32769" 64 3 3
    ∷ refuses "c @" 64 4 2
    ∷ refuses "c s" 63 11 0
    ∷ refuses "c @" 0 4 2
    -- the layout's size comes first
    ∷ too_long 257 0 1 0
    ∷ too_long 256 8191 11 0
    ∷ []
