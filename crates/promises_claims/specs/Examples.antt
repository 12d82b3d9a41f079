-- Worked examples of the two calls, computed from the definitions. All are one statement, proved in
-- proofs/Examples.antt.
use Rattle.std.specs.Prelude.{ℕ, zero, suc, Bool, true, ◌&&◌, List, [], ◌∷◌, eqb}
use Prim.Native.String.{String, [] as ε, ◌∷◌ as ◌▸◌}
use Rattle.layout.specs.Quoted.{bytes}
use Rattle.promises.specs.declared.Told.{Told}
use Rattle.promises.specs.Promises.{nowhere, promised, extended}

-- one text after another; and a text n times
infixr 20 ◌then◌
abbrev ◌then◌ : String → String → String
ε then t = t
(c ▸ s) then t = c ▸ (s then t)

abbrev times : ℕ → String → String
times zero s = ε
times (suc n) s = s then times n s

pub data Example : Type 0 where
  -- a layout, and the four numbers that `promises` answers
  asks : String → ℕ → ℕ → ℕ → ℕ → Example
  -- an old layout, a new one, and the four numbers that `extends` answers
  grows : String → String → ℕ → ℕ → ℕ → ℕ → Example

abbrev says : Told → ℕ → ℕ → ℕ → ℕ → Bool
says t n a b c = eqb t.answer.number n && eqb t.answer.first a && eqb t.answer.second b && eqb t.fourth c

pub holds : Example → Bool
unfolding promised extended
holds (asks layout n a b c) = says (promised (bytes layout)) n a b c
holds (grows old new n a b c) = says (extended (bytes old) (bytes new)) n a b c

unfoldable pub all : List Example → Bool
unfolding holds
all [] = true
all (e ∷ es) = holds e && all es

unfoldable pub examples : List Example
examples =
    -- a name, a strip of eight answers and a mark: all three promises
    asks "a6 b8 Su" 0 nowhere nowhere nowhere
    -- `A` drops blanks; three digits leave bits over
    ∷ asks "A8 S2" 0 nowhere 0 nowhere
    ∷ asks "a6 b3 Su" 0 nowhere 3 nowhere
    -- `x` may be joined and grow; its bytes are not shown
    ∷ asks "c x2 c" 0 nowhere 2 nowhere
    -- a star may be joined; the place is the type character's, after the spaces and before the flag
    ∷ asks "c  su*" 0 3 3 nowhere
    -- a count of 0, then an `X`
    ∷ asks "c0 X c" 0 0 0 3
    ∷ asks "" 0 nowhere nowhere nowhere
    -- 64 slots and 32768 bytes, and one more of each: the field past the limit breaks the first two promises
    ∷ asks (times 64 "c") 0 nowhere nowhere nowhere
    ∷ asks (times 65 "c") 0 64 64 nowhere
    ∷ asks "a32768" 0 nowhere nowhere nowhere
    ∷ asks "a32768 a" 0 7 7 nowhere
    -- an `x` takes no slot, but it fills bytes; the first field from the left counts, whatever it breaks
    ∷ asks (times 64 "c" then "x c") 0 66 64 nowhere
    ∷ asks "c a32767 x c*" 0 9 9 nowhere
    ∷ asks "c* a32768" 0 0 0 nowhere
    -- refused as packing would: an `@` without a count, a count over the limit
    ∷ asks "c @" 4 2 0 0
    ∷ asks "c c32769" 3 3 0 0
    -- two marks, then three
    ∷ grows "A8 S2" "A8 S2 S" 0 2 1 0
    -- the same fields in another text
    ∷ grows "c3 su" "c03su" 0 2 0 0
    ∷ grows "" "c" 0 0 1 0
    -- no count is not a count of 1; the flag counts; a field is missing
    ∷ grows "S c" "S c1" 17 2 0 1
    ∷ grows "S" "Su c" 17 0 0 1
    ∷ grows "S c" "S  " 17 3 0 1
    -- the fields agree, but they are not plain
    ∷ grows "a2 c*" "a2 c*" 18 3 0 1
    ∷ grows "c" "c @4 c" 18 2 0 1
    -- the limits of the new layout: 64 slots and 32768 bytes, and one more of each
    ∷ grows "c" (times 64 "c") 0 1 63 0
    ∷ grows "c" (times 65 "c") 5 64 0 1
    ∷ grows "a32768" "a32768" 0 1 0 0
    ∷ grows "a32768" "a32768 a" 11 7 0 1
    ∷ grows "w4095" "w4095 b64 b" 11 10 0 1
    -- 18 before 5, and 5 before 11, wherever they stand; 17 before all
    ∷ grows "" (times 65 "c" then " c*") 18 66 0 1
    ∷ grows "" ("a32768" then times 64 "c") 5 69 0 1
    ∷ grows (times 65 "c") "c a32768" 17 2 0 1
    -- the old layout's own limits are not asked: the new one begins with its fields
    ∷ grows (times 65 "c") (times 65 "c") 5 64 0 1
    -- a layout that is refused: the old one, then the new one
    ∷ grows "k" "k" 2 0 0 0
    ∷ grows "c" "c x*" 4 2 0 1
    ∷ []
