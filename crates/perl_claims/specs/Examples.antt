-- Worked examples of M-105, computed from the definitions. The list is one statement, proved in proofs/Examples.antt.
use Rattle.std.specs.Prelude.{ℕ, Bool, true, false, ◌&&◌, List, [], ◌∷◌, ◌++◌, length, drop, replicate, eqb}
use Prim.Native.String.{String}
use Rattle.layout.specs.Quoted.{bytes}
use Rattle.perl.specs.Writing.{repeated}
use Rattle.perl.specs.Conversion.{Converted, from_perl}

pub data Example : Type 0 where
  -- a template and its layout
  gives : String → String → Example
  -- a template; the number and the place of its refusal
  refuses : String → ℕ → ℕ → Example
  -- a template, how many bytes the buffer has; the number and the first value of the answer
  answers : List ℕ → ℕ → ℕ → ℕ → Example

same : List ℕ → List ℕ → Bool
same [] [] = true
same [] (y ∷ ys) = false
same (x ∷ xs) [] = false
same (x ∷ xs) (y ∷ ys) = eqb x y && same xs ys

-- the call leaves this answer and this buffer
leaves : Converted → ℕ → ℕ → List ℕ → Bool
unfolding same
leaves r number first layout =
    same (r.answer.number ∷ r.answer.first ∷ r.answer.second ∷ []) (number ∷ first ∷ 0 ∷ [])
    && same r.layout layout

-- the call does what an example says; the buffer lent holds forty bytes 170, which stay after the layout and where
-- nothing is written
pub holds : Example → Bool
unfolding leaves from_perl same
holds (gives t l) =
    let text = bytes l in
    leaves (from_perl (bytes t) (replicate 40 170)) 0 (length text) (text ++ drop (length text) (replicate 40 170))
holds (refuses t number place) = leaves (from_perl (bytes t) (replicate 40 170)) number place (replicate 40 170)
holds (answers t room number first) =
    let r = from_perl t (replicate room 170) in
    same (r.answer.number ∷ r.answer.first ∷ r.answer.second ∷ []) (number ∷ first ∷ 0 ∷ [])

unfoldable pub all : List Example → Bool
unfolding holds
all [] = true
all (e ∷ es) = holds e && all es

unfoldable pub examples : List Example
unfolding repeated
examples =
    gives "(n2a3)2 C" "Su2a3Su2a3cu"
    ∷ gives "" ""
    ∷ gives "   " ""
    ∷ gives "abBhHx" "abBhHx"
    ∷ gives "CnNvV" "cuSuIusuiu"
    ∷ gives " a1 b4096 " "a1b4096"
    ∷ gives "( ( a )2 x3 )2" "aax3aax3"
    ∷ gives "((((((((a))))))))2" "aa"
    ∷ gives "(a)10(x)" "aaaaaaaaaax"
    ∷ gives "(a1)1" "a1"
    ∷ refuses "a4097" 15 4
    ∷ refuses "a5000" 15 4
    ∷ refuses "a40960" 15 5
    ∷ refuses "(a)65" 15 4
    ∷ refuses "a0" 15 1
    ∷ refuses "a01" 15 1
    ∷ refuses "(a)0" 15 3
    ∷ refuses "(((((((((a)))))))))" 15 8
    ∷ refuses "()" 15 1
    ∷ refuses "( )" 15 2
    ∷ refuses "(a) 2" 15 4
    ∷ refuses "a 2" 15 2
    ∷ refuses "a*" 15 1
    ∷ refuses "aA" 15 1
    ∷ refuses "X" 15 0
    ∷ refuses "a)" 15 1
    ∷ refuses "(a" 15 2
    ∷ refuses "(a " 15 3
    ∷ refuses "((((a)64)64)64)64 z" 15 18
    ∷ refuses "((a)64)64" 11 0
    ∷ refuses "(a)41" 11 0
    ∷ answers (bytes "(a)64") 64 0 64
    ∷ answers (bytes "((a)64)4") 256 0 256
    ∷ answers (bytes "((a)64)4") 255 11 0
    ∷ answers (bytes "((a)64)4a") 300 11 0
    ∷ answers (repeated 256 (bytes "a")) 256 0 256
    ∷ answers (repeated 257 (bytes "A")) 256 1 0
    ∷ answers (repeated 256 (bytes " ")) 0 0 0
    ∷ []
