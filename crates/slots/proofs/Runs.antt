-- The two loops as lists: the numbers that a run of slots fills, and the slots that a run of numbers makes.
use mathlib.Core.Path.{◌≡◌, refl, sym, ap, ◌∙◌}
use Prim.Native.Nat.{ℕ, zero, suc, ◌+◌, ◌*◌, ◌<◌, ◌≤◌}
use native.Mathlib.Omega.{arith}
use mathlib.Core.List.{List, [], ◌∷◌, ◌++◌}
use lib.ListN.{length, get_or, set, take, drop}
use lib.Seq.{take_at, take-suc, take-add, drop-cons, drop-append-add, drop-drop, length-take-le, set_at, append_snoc}
use Rattle.record.specs.Bytes.{store_at}
use Rattle.record.specs.Table.{slot_width}
use Rattle.slots.specs.declared.SlotRecord.{SlotRecord}
use Rattle.slots.specs.Slots.{slots_numbers, slots_from, slot_from, numbers_of}

abbrev pub no_slot : SlotRecord
no_slot = record { kind = 0; start = 0; length = 0; position = 0 }

abbrev pub slot_of : List SlotRecord → ℕ → SlotRecord
slot_of ss i = get_or ss i no_slot

-- ---- the turns of the loops

-- the numbers, after those of the first i slots are stored
abbrev pub loaded : List SlotRecord → List ℕ → ℕ → List ℕ
loaded ss ns zero = ns
loaded ss ns (suc i) = store_at (loaded ss ns i) (i * slot_width) (numbers_of (slot_of ss i))

-- the slots, after the first i are made of the numbers
abbrev pub saved : List SlotRecord → List ℕ → ℕ → List SlotRecord
saved ss ns zero = ss
saved ss ns (suc i) = set (saved ss ns i) i (slot_from ns (i * slot_width))

-- ---- the numbers of slots

pub length-numbers : (ss : List SlotRecord) → length (slots_numbers ss) ≡ length ss * slot_width
unfolding slots_numbers
length-numbers [] = refl
length-numbers (s ∷ ss) = ap (λ (k : ℕ). suc (suc (suc (suc k)))) (length-numbers ss) ∙ omega arith

numbers-append : (ss ts : List SlotRecord) → slots_numbers (ss ++ ts) ≡ slots_numbers ss ++ slots_numbers ts
unfolding slots_numbers
numbers-append [] ts = refl
numbers-append (s ∷ ss) ts = rw (numbers-append ss ts)

-- after i slots: their numbers, and then what was there
pub loaded-is : (ss : List SlotRecord) (ns : List ℕ) (i : ℕ) → i ≤ length ss → i * slot_width ≤ length ns → loaded ss ns i ≡ slots_numbers (take i ss) ++ drop (i * slot_width) ns
unfolding slots_numbers
loaded-is ss ns zero l g = refl
loaded-is ss ns (suc i) l g =
    ap (λ (z : List ℕ). take (i * slot_width) z ++ numbers_of (slot_of ss i) ++ drop (i * slot_width + slot_width) z) (loaded-is ss ns i (omega arith) (omega arith))
    ∙ (λ j. take_at front (drop (i * slot_width) ns) (i * slot_width) front_long j ++ numbers_of (slot_of ss i) ++ rest j)
    ∙ ap (λ (z : List ℕ). z ++ drop (suc i * slot_width) ns) (sym (ap slots_numbers (take-suc ss i no_slot l) ∙ numbers-append (take i ss) (slot_of ss i ∷ [])))
  where
    front : List ℕ
    front = slots_numbers (take i ss)

    front_long : length front ≡ i * slot_width
    front_long = length-numbers (take i ss) ∙ ap (λ (k : ℕ). k * slot_width) (length-take-le i ss (omega arith))

    slot-on : i * slot_width + slot_width ≡ suc i * slot_width
    slot-on = omega arith

    rest : drop (i * slot_width + slot_width) (front ++ drop (i * slot_width) ns) ≡ drop (suc i * slot_width) ns
    rest =
        ap (λ (k : ℕ). drop (k + slot_width) (front ++ drop (i * slot_width) ns)) (sym front_long)
        ∙ drop-append-add front (drop (i * slot_width) ns) slot_width ∙ drop-drop slot_width (i * slot_width) ns
        ∙ ap (λ (k : ℕ). drop k ns) slot-on

-- after the last turn
pub loaded-all : (ss : List SlotRecord) (ns ms : List ℕ) (i k : ℕ)
    → ms ≡ loaded ss ns i → i ≡ k → k ≤ length ss → k * slot_width ≤ length ns
    → ms ≡ slots_numbers (take k ss) ++ drop (k * slot_width) ns
loaded-all ss ns ms i k e same l g = e ∙ ap (loaded ss ns) same ∙ loaded-is ss ns k l g

-- the scratch after k slots are taken apart
abbrev pub filled : ℕ → List SlotRecord → List ℕ → List ℕ
filled k ss ns = slots_numbers (take k ss) ++ drop (k * slot_width) ns

-- ---- the slots of numbers

pub slots-back : (ss : List SlotRecord) → slots_from (slots_numbers ss) ≡ ss
unfolding slots_numbers slots_from
slots-back [] = refl
slots-back (s ∷ ss) = ap (λ (l : List SlotRecord). s ∷ l) (slots-back ss)

length-slots : (ns : List ℕ) (i : ℕ) → length ns ≡ i * slot_width → length (slots_from ns) ≡ i
unfolding slots_from
length-slots [] i e = omega arith
length-slots (k ∷ []) i e = omega arith
length-slots (k ∷ s ∷ []) i e = omega arith
length-slots (k ∷ s ∷ n ∷ []) i e = omega arith
length-slots (k ∷ s ∷ n ∷ p ∷ ns) zero e = omega arith
length-slots (k ∷ s ∷ n ∷ p ∷ ns) (suc i) e = ap suc (length-slots ns i (omega arith))

part-of-one : (i m : ℕ) → 0 < m → m < slot_width → m ≡ i * slot_width → ⊥
part-of-one i m l g e = omega arith

more-than-none : (m : ℕ) → suc (suc (suc (suc m))) ≡ 0 → ⊥
more-than-none m e = omega arith

slots-append : (ns ms : List ℕ) (i : ℕ) → length ns ≡ i * slot_width → slots_from (ns ++ ms) ≡ slots_from ns ++ slots_from ms
unfolding slots_from
slots-append [] ms i e = refl
slots-append (k ∷ []) ms i e = absurd (part-of-one i 1 (omega arith) (omega arith) e)
slots-append (k ∷ s ∷ []) ms i e = absurd (part-of-one i 2 (omega arith) (omega arith) e)
slots-append (k ∷ s ∷ n ∷ []) ms i e = absurd (part-of-one i 3 (omega arith) (omega arith) e)
slots-append (k ∷ s ∷ n ∷ p ∷ ns) ms zero e = absurd (more-than-none (length ns) e)
slots-append (k ∷ s ∷ n ∷ p ∷ ns) ms (suc i) e = ap (λ (l : List SlotRecord). record { kind = k; start = s; length = n; position = p } ∷ l) (slots-append ns ms i (omega arith))

-- the numbers at k
four-at : (ns : List ℕ) (k : ℕ) → k + slot_width ≤ length ns → drop k ns ≡ get_or ns k 0 ∷ get_or ns (k + 1) 0 ∷ get_or ns (k + 2) 0 ∷ get_or ns (k + 3) 0 ∷ drop (k + slot_width) ns
four-at ns k l = rw (drop-cons ns k 0 first, drop-cons ns (suc k) 0 second, drop-cons ns (suc (suc k)) 0 third, drop-cons ns (suc (suc (suc k))) 0 fourth, one, two, three, all)
  where
    first : k < length ns
    first = omega arith

    second : suc k < length ns
    second = omega arith

    third : suc (suc k) < length ns
    third = omega arith

    fourth : suc (suc (suc k)) < length ns
    fourth = omega arith

    one : k + 1 ≡ suc k
    one = omega arith

    two : k + 2 ≡ suc (suc k)
    two = omega arith

    three : k + 3 ≡ suc (suc (suc k))
    three = omega arith

    all : k + slot_width ≡ suc (suc (suc (suc k)))
    all = omega arith

one-slot : (ns : List ℕ) (k : ℕ) → k + slot_width ≤ length ns → slots_from (take slot_width (drop k ns)) ≡ slot_from ns k ∷ []
unfolding slots_from
one-slot ns k l = ap (λ (z : List ℕ). slots_from (take slot_width z)) (four-at ns k l)

slots-more : (ns : List ℕ) (i : ℕ) → suc i * slot_width ≤ length ns → slots_from (take (suc i * slot_width) ns) ≡ slots_from (take (i * slot_width) ns) ++ (slot_from ns (i * slot_width) ∷ [])
slots-more ns i l =
    ap (λ (k : ℕ). slots_from (take k ns)) slot-on
    ∙ ap slots_from (take-add (i * slot_width) slot_width ns)
    ∙ slots-append (take (i * slot_width) ns) (take slot_width (drop (i * slot_width) ns)) i (length-take-le (i * slot_width) ns (omega arith))
    ∙ ap (λ (z : List SlotRecord). slots_from (take (i * slot_width) ns) ++ z) (one-slot ns (i * slot_width) (omega arith))
  where
    slot-on : suc i * slot_width ≡ i * slot_width + slot_width
    slot-on = omega arith

-- after i slots: those that the numbers make, and then what was there
pub saved-is : (ss : List SlotRecord) (ns : List ℕ) (i : ℕ) → i ≤ length ss → i * slot_width ≤ length ns → saved ss ns i ≡ slots_from (take (i * slot_width) ns) ++ drop i ss
unfolding slots_from
saved-is ss ns zero l g = refl
saved-is ss ns (suc i) l g =
    ap (λ (z : List SlotRecord). set z i (slot_from ns (i * slot_width))) (saved-is ss ns i (omega arith) (omega arith)
    ∙ ap (λ (z : List SlotRecord). slots_from (take (i * slot_width) ns) ++ z) (drop-cons ss i no_slot l))
    ∙ set_at (slots_from (take (i * slot_width) ns)) (slot_of ss i) (drop (suc i) ss) (slot_from ns (i * slot_width)) i
    (length-slots (take (i * slot_width) ns) i (length-take-le (i * slot_width) ns (omega arith)))
    ∙ sym (append_snoc (slots_from (take (i * slot_width) ns)) (slot_from ns (i * slot_width)) (drop (suc i) ss))
    ∙ ap (λ (z : List SlotRecord). z ++ drop (suc i) ss) (sym (slots-more ns i g))

-- after the last turn
pub saved-all : (ss ts : List SlotRecord) (ns : List ℕ) (i k : ℕ)
    → ts ≡ saved ss ns i → i ≡ k → k ≤ length ss → k * slot_width ≤ length ns
    → ts ≡ slots_from (take (k * slot_width) ns) ++ drop k ss
saved-all ss ts ns i k e same l g = e ∙ ap (saved ss ns) same ∙ saved-is ss ns k l g
