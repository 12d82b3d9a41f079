-- Laws of slot tables: the slots are the numbers, `slot_width` to a slot; and what the kinds say of each other.
use Prim.Native.Nat.{ℕ, zero, suc, ◌*◌, ◌/◌, ◌%◌, ◌≤◌, ◌<◌}
use native.Mathlib.Nat.{eq-or-lt_of_le}
use native.Mathlib.Omega.{arith}
use mathlib.Core.Path.{◌≡◌, refl, sym, ap, ap₂, ◌∙◌}
use mathlib.Core.Bool.{Bool, true, false, ◌||◌}
use mathlib.Core.Logic.{⊎_elim}
use mathlib.Core.List.{List, [], ◌∷◌, ◌++◌}
use lib.ListN.{length, take, drop, take-append-drop}
use lib.Seq.{drop-nil, take_at, drop_at}
use lib.Dec.{eqb}
use borrow.Author.Tests.{eqb-true, eq-eqb, ne_eqb}
use Rattle.record.specs.declared.slots.Slot.{Slot}
use Rattle.record.specs.Table.{slots_of, slot_width, string, signed, unsigned, real, is_integers}

pub length-slots : (ns : List ℕ) → length (slots_of ns) ≡ length ns / slot_width
unfolding slots_of
length-slots [] = refl
length-slots (a ∷ []) = refl
length-slots (a ∷ b ∷ []) = refl
length-slots (a ∷ b ∷ d ∷ []) = refl
length-slots (a ∷ b ∷ d ∷ e ∷ ns) = let h : length (slots_of ns) ≡ length ns / slot_width = length-slots ns in omega arith

-- one slot more, number by number
four : (n : ℕ) → slot_width * suc n ≡ suc (suc (suc (suc (slot_width * n))))
four n = omega arith

pub drop-slots : (k : ℕ) (ns : List ℕ) → drop k (slots_of ns) ≡ slots_of (drop (slot_width * k) ns)
unfolding slots_of
drop-slots zero ns = refl
drop-slots (suc k) ns = rw (four k) (go ns (drop-slots k))
  where
    go : (ns : List ℕ) → ((ms : List ℕ) → drop k (slots_of ms) ≡ slots_of (drop (slot_width * k) ms)) → drop (suc k) (slots_of ns) ≡ slots_of (drop (suc (suc (suc (suc (slot_width * k))))) ns)
    go [] ih = simp drop-nil
    go (a ∷ []) ih = simp drop-nil
    go (a ∷ b ∷ []) ih = simp drop-nil
    go (a ∷ b ∷ d ∷ []) ih = simp drop-nil
    go (a ∷ b ∷ d ∷ e ∷ rest) ih = ih rest

pub slots-take : (n : ℕ) (ns : List ℕ) → slots_of (take (slot_width * n) ns) ≡ take n (slots_of ns)
unfolding slots_of
slots-take zero ns = refl
slots-take (suc n) ns = rw (four n) (go ns (slots-take n))
  where
    go : (ns : List ℕ) → ((ms : List ℕ) → slots_of (take (slot_width * n) ms) ≡ take n (slots_of ms)) → slots_of (take (suc (suc (suc (suc (slot_width * n))))) ns) ≡ take (suc n) (slots_of ns)
    go [] ih = refl
    go (k ∷ []) ih = refl
    go (k ∷ s ∷ []) ih = refl
    go (k ∷ s ∷ c ∷ []) ih = refl
    go (k ∷ s ∷ c ∷ p ∷ rest) ih = ap (λ (r : List Slot). record { kind = k; start = s; len = c; position = p } ∷ r) (ih rest)

-- whole slots in front of others
pub slots-append : (xs ys : List ℕ) → length xs % slot_width ≡ 0 → slots_of (xs ++ ys) ≡ slots_of xs ++ slots_of ys
slots-append xs ys h =
    let n : ℕ = length xs / slot_width in
    let whole : length xs ≡ slot_width * n = omega arith in
    sym (take-append-drop n (slots_of (xs ++ ys)))
    ∙ ap₂ (λ (a b : List Slot). a ++ b)
    (sym (slots-take n (xs ++ ys)) ∙ ap slots_of (take_at xs ys (slot_width * n) whole))
    (drop-slots n (xs ++ ys) ∙ ap slots_of (drop_at xs ys (slot_width * n) whole))

-- ---- kinds

-- integers are no string
pub integers-kind : (kind : ℕ) → is_integers kind ≡ true → eqb kind string ≡ false
integers-kind kind h = by (eqb kind signed) refl h
  where
    by : (t : Bool) → eqb kind signed ≡ t → (t || eqb kind unsigned) ≡ true → eqb kind string ≡ false
    by true e h = ne_eqb kind string (λ x. omega (arith, eqb-true kind signed e))
    by false e h = ne_eqb kind string (λ x. omega (arith, eqb-true kind unsigned h))

-- nor are reals
pub reals-kind : (kind : ℕ) → eqb kind real ≡ true → eqb kind string ≡ false
reals-kind kind h = ne_eqb kind string (λ x. omega (arith, eqb-true kind real h))

pub kind-integers : (kind : ℕ) → signed ≤ kind → kind ≤ unsigned → is_integers kind ≡ true
kind-integers kind h l =
    ⊎_elim
    (λ (e : signed ≡ kind). rw (eq-eqb kind signed (sym e)))
    (λ (m : signed < kind). let e : kind ≡ unsigned = omega arith in rw (ne_eqb kind signed (λ x. omega arith), eq-eqb kind unsigned e))
    (eq-or-lt_of_le h)
