-- A slot by its number, read and set: the numbers four by four.
use Prim.Native.Nat.{ℕ, suc, ◌+◌, ◌*◌, ◌≤◌, ◌<◌}
use native.Mathlib.Omega.{arith}
use mathlib.Core.Path.{◌≡◌, sym, ap, ◌∙◌}
use mathlib.Core.List.{List, [], ◌∷◌}
use lib.ListN.{length, get_or, set, drop}
use lib.Seq.{drop-cons, sets-eq}
use Rattle.record.proofs.Tables.{drop-slots}
use Rattle.record.specs.declared.slots.Slot.{Slot}
use Rattle.record.specs.Table.{slots_of, slot_width}
use Rattle.record.specs.Packing.{next_slot}
use Rattle.record.specs.Slots.{slot_at}
use Rattle.record.specs.inside.Slots.{slot_set}

-- the number at i + j, and those after it
here : (ns : List ℕ) (i j : ℕ) → i + j < length ns → drop (i + j) ns ≡ get_or ns (i + j) 0 ∷ drop (i + suc j) ns
here ns i j h = let e : suc (i + j) ≡ i + suc j = omega arith in rw (← e) (drop-cons ns (i + j) 0 h)

four : (ns : List ℕ) (i : ℕ) → i + 4 ≤ length ns → drop i ns ≡ get_or ns i 0 ∷ get_or ns (i + 1) 0 ∷ get_or ns (i + 2) 0 ∷ get_or ns (i + 3) 0 ∷ drop (i + 4) ns
four ns i h =
    let e : i ≡ i + 0 = omega arith in
    ap (λ (k : ℕ). drop k ns) e ∙ here ns i 0 (omega arith) ∙ ap (λ (k : ℕ). get_or ns k 0 ∷ drop (i + 1) ns) (sym e)
    ∙ ap (λ (l : List ℕ). get_or ns i 0 ∷ l) (here ns i 1 (omega arith) ∙ ap (λ (l : List ℕ). get_or ns (i + 1) 0 ∷ l)
    (here ns i 2 (omega arith) ∙ ap (λ (l : List ℕ). get_or ns (i + 2) 0 ∷ l) (here ns i 3 (omega arith))))

-- the stores that set slot number k
pub set-numbers : (ns : List ℕ) (k x y z p : ℕ) → slot_width * k + slot_width ≤ length ns
    → set (set (set (set ns (slot_width * k) x) (slot_width * k + 1) y) (slot_width * k + 2) z) (slot_width * k + 3) p ≡ slot_set ns k (record { kind = x; start = y; len = z; position = p })
set-numbers ns k x y z p h =
    let second : slot_width * k + 1 ≡ suc (slot_width * k) = omega arith in
    let third : slot_width * k + 2 ≡ suc (suc (slot_width * k)) = omega arith in
    let fourth : slot_width * k + 3 ≡ suc (suc (suc (slot_width * k))) = omega arith in
    rw (second, third, fourth) (sets-eq (x ∷ y ∷ z ∷ p ∷ []) ns (slot_width * k) h)

-- slot number k is made of the numbers from its place on
pub next-slot : (ns : List ℕ) (k : ℕ) → slot_width * k + slot_width ≤ length ns → next_slot (drop k (slots_of ns)) ≡ slot_at ns k
unfolding slots_of slot_at
next-slot ns k h = ap next_slot (drop-slots k ns ∙ ap slots_of (four ns (slot_width * k) h))

-- slot number k, in front of those after it
pub slot-here : (ns : List ℕ) (k : ℕ) → slot_width * k + slot_width ≤ length ns → drop k (slots_of ns) ≡ slot_at ns k ∷ drop (k + 1) (slots_of ns)
unfolding slots_of slot_at
slot-here ns k h =
    let on : slot_width * k + 4 ≡ slot_width * (k + 1) = omega arith in
    drop-slots k ns ∙ ap slots_of (four ns (slot_width * k) h) ∙ ap (λ (l : List Slot). slot_at ns k ∷ l) (ap (λ (i : ℕ). slots_of (drop i ns)) on ∙ sym (drop-slots (k + 1) ns))
