-- Binary digits step by step (02, M-103): in storing and in reading out, for `b` and for `B`, padding counted.
use Rattle.std.specs.Prelude.{ℕ, zero, suc, ◌+◌, ◌-◌, ◌*◌, ◌/◌, ◌%◌, ◌≤◌, ◌<◌, ◌≡◌, Bool, true, false, List, [], ◌∷◌, map, length, get_or, set, leb, ltb, if◌then◌else◌}
use Rattle.layout.specs.declared.Shape.TheVariants.{Digits}
use Rattle.layout.specs.Quoted as quoted
use Rattle.record.specs.Bytes.{part, store_at, fit, ceil_div, digits, number, ordered}
use Rattle.record.specs.Packing.{digit_value, stored}
use Rattle.record.specs.Reading.{digit_char, loaded}

-- ---- a step

-- A field of binary digits on its way: how many of them are done, and the bytes of what is written, which is the record
-- in storing and the area in reading out.
pub record Progress : Type 0 where
  pub done : ℕ
  pub bytes : List ℕ

-- how many of n digits are done after one step more: the eight of a whole byte where eight remain, and else one
abbrev pub next_done : ℕ → ℕ → ℕ
next_done n done = if leb (done + 8) n then done + 8 else (done + 1)

-- what a step makes of the bytes that are written, where `done` digits are done before it and `next` after it
abbrev pub Writing : Type 0
Writing = List ℕ → ℕ → ℕ → List ℕ

-- In storing the digits cs at a place of the record a step sets ONE BYTE of it, the one in which these digits stand: to
-- what the byte's digits make, with 0 for each that is not done yet and for padding.
abbrev pub storing : Bool → List ℕ → ℕ → Writing
storing high cs at bytes done next =
    let k = done / 8 in
    set bytes (at + k) (number 2 (ordered high (fit 8 0 (map digit_value (part cs (8 * k) (next - 8 * k))))))

-- In reading digits out from a place of the record a step looks at ONE BYTE of it, the one in which these digits stand,
-- and writes their characters into the area.
abbrev pub showing : Bool → List ℕ → ℕ → ℕ → Writing
showing high bytes at to area done next =
    let byte = get_or bytes (at + done / 8) 0 in
    store_at area (to + done) (part (map digit_char (ordered high (digits 2 8 byte))) (done % 8) (next - done))

-- A STEP over a field of n digits. Where all are done it changes nothing.
unfoldable pub step : Writing → ℕ → Progress → Progress
step write n p =
    let next = next_done n p.done in
    if ltb p.done n then record { done = next; bytes = write p.bytes p.done next } else p

-- THE STEPS: how far a field of n digits is after k steps
unfoldable pub steps : Writing → ℕ → List ℕ → ℕ → Progress
unfolding step
steps write n bytes zero = record { done = 0; bytes = bytes }
steps write n bytes (suc k) = step write n (steps write n bytes k)

-- the steps from the number j on up to m turn the bytes `one` into `two`: of whatever j steps make the former, m steps
-- make the latter
abbrev pub Advanced : Writing → ℕ → ℕ → ℕ → List ℕ → List ℕ → Type 0
Advanced write n j m one two =
    (bytes : List ℕ) → one ≡ (steps write n bytes j).bytes → two ≡ (steps write n bytes m).bytes

-- the steps that n digits take, one for each whole byte and one for each digit that is left; and those that they may
-- take
abbrev pub binary_steps : ℕ → ℕ
binary_steps n = n / 8 + n % 8

abbrev pub binary_budget : ℕ → ℕ
binary_budget n = n / 8 + 7

-- ---- what holds of the steps (proved in proofs/StepLaws.antt; `StoredWithin` in the module `store`, `ShownWithin` in
-- `load`)

-- a step of storing changes no byte of the record but one
abbrev pub OneByteSet : Type 0
OneByteSet =
    (high : Bool) (cs : List ℕ) (at n : ℕ) (p : Progress) (i : ℕ) → (i ≡ at + p.done / 8 → ⊥)
    → get_or (step (storing high cs at) n p).bytes i 0 ≡ get_or p.bytes i 0

-- a step of reading out looks at no byte of the record but one: over two records that have the same byte there it does
-- the same
abbrev pub OneByteSeen : Type 0
OneByteSeen =
    (high : Bool) (one two : List ℕ) (at to n : ℕ) (p : Progress)
    → get_or one (at + p.done / 8) 0 ≡ get_or two (at + p.done / 8) 0
    → step (showing high one at to) n p ≡ step (showing high two at to) n p

-- all digits of a step stand in one byte
abbrev pub InOneByte : Type 0
InOneByte =
    (write : Writing) (n : ℕ) (bytes : List ℕ) (k : ℕ)
    → let done = (steps write n bytes k).done in (steps write n bytes (suc k)).done ≤ 8 * (done / 8) + 8

-- n digits are all done after their steps, and so within the budget
abbrev pub AllDone : Type 0
AllDone =
    (write : Writing) (n : ℕ) (bytes : List ℕ)
    → ((steps write n bytes (binary_steps n)).done ≡ n) × ((steps write n bytes (binary_budget n)).done ≡ n)

-- n digits are not all done after fewer steps; so where seven are left after whole bytes, a budget of n/8 + 6 is too
-- small
abbrev pub NoFewer : Type 0
NoFewer = (write : Writing) (n : ℕ) (bytes : List ℕ) (k : ℕ) → k < binary_steps n → (steps write n bytes k).done < n

abbrev pub SevenNeeded : Type 0
SevenNeeded = (write : Writing) (n : ℕ) (bytes : List ℕ) → n % 8 ≡ 7 → (steps write n bytes (n / 8 + 6)).done < n

-- where all digits are done, further steps change nothing
abbrev pub Settled : Type 0
Settled =
    (write : Writing) (n : ℕ) (bytes : List ℕ) (k : ℕ) → binary_steps n ≤ k
    → steps write n bytes k ≡ steps write n bytes (binary_steps n)

-- within the budget a field is stored whole, and read out whole
abbrev pub StoredWithin : Type 0
StoredWithin = (high : Bool) (cs : List ℕ) (at n : ℕ) (bytes : List ℕ) → at + ceil_div n 8 ≤ length bytes
    → (steps (storing high cs at) n bytes (binary_budget n)).bytes ≡ store_at bytes at (stored (Digits false high) n cs)

abbrev pub ShownWithin : Type 0
ShownWithin =
    (high : Bool) (bytes : List ℕ) (at to n : ℕ) (area : List ℕ) → at + ceil_div n 8 ≤ length bytes
    → to + n ≤ length area
    → (steps (showing high bytes at to) n area (binary_budget n)).bytes
    ≡ store_at area to (loaded (Digits false high) false n (part bytes at (ceil_div n 8))).items

-- ---- an example: `B11` stored over three bytes of which ten digits are given, after 0 to 4 steps; and `B10` read out,
-- after 0 to 3

abbrev pub Example : Type 0
Example =
    (map (λ k. (steps (storing true (quoted.bytes "1101001111") 0) 11 (255 ∷ 255 ∷ 255 ∷ []) k).bytes)
    (0 ∷ 1 ∷ 2 ∷ 3 ∷ 4 ∷ [])
    ≡ (255 ∷ 255 ∷ 255 ∷ []) ∷ (211 ∷ 255 ∷ 255 ∷ []) ∷ (211 ∷ 128 ∷ 255 ∷ []) ∷ (211 ∷ 192 ∷ 255 ∷ [])
    ∷ (211 ∷ 192 ∷ 255 ∷ []) ∷ [])
    × (map (λ k. (steps (showing true (211 ∷ 192 ∷ []) 0 0) 10 (quoted.bytes "............") k).bytes)
    (0 ∷ 1 ∷ 2 ∷ 3 ∷ [])
    ≡ quoted.bytes "............" ∷ quoted.bytes "11010011...." ∷ quoted.bytes "110100111..."
    ∷ quoted.bytes "1101001111.." ∷ [])
