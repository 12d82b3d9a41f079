-- Each arm names its byte, so both sides compute; a byte of no arm differs from every type character.
use borrow.Author.Rules.{rules}
use Prim.Native.Nat.{ℕ, ◌+◌}
use native.Mathlib.Omega.{arith}
use mathlib.Core.Path.{◌≡◌, refl, ap}
use mathlib.Core.Bool.{false}
use borrow.Author.Tests.{ne_eqb}
use lib.Dec.{eqb}
use Rattle.std.specs.declared.option.Option.TheVariants.{None}
use Rattle.layout.specs.Layout.{type_of}
use Rattle.layout.specs.Codes.{type_numbered}
use Rattle.layout.proofs.scanner.letter.Goals as goal

pub returns-in-0 : goal.returns-in-0
unfolding type_of type_numbered
returns-in-0 c = (ap (λ (n : ℕ). type_of (n + 64)) c.in-0.is, λ h. refl, omega arith)

pub returns-in-1 : goal.returns-in-1
unfolding type_of type_numbered
returns-in-1 c = (ap (λ (n : ℕ). type_of (n + 64)) c.in-1.is, λ h. refl, omega arith)

pub returns-in-2 : goal.returns-in-2
unfolding type_of type_numbered
returns-in-2 c = (ap (λ (n : ℕ). type_of (n + 64)) c.in-2.is, λ h. refl, omega arith)

pub returns-in-8 : goal.returns-in-8
unfolding type_of type_numbered
returns-in-8 c = (ap (λ (n : ℕ). type_of (n + 64)) c.in-8.is, λ h. refl, omega arith)

pub returns-in-9 : goal.returns-in-9
unfolding type_of type_numbered
returns-in-9 c = (ap (λ (n : ℕ). type_of (n + 64)) c.in-9.is, λ h. refl, omega arith)

pub returns-in-17 : goal.returns-in-17
unfolding type_of type_numbered
returns-in-17 c = (ap (λ (n : ℕ). type_of (n + 64)) c.in-17.is, λ h. refl, omega arith)

pub returns-in-18 : goal.returns-in-18
unfolding type_of type_numbered
returns-in-18 c = (ap (λ (n : ℕ). type_of (n + 64)) c.in-18.is, λ h. refl, omega arith)

pub returns-in-19 : goal.returns-in-19
unfolding type_of type_numbered
returns-in-19 c = (ap (λ (n : ℕ). type_of (n + 64)) c.in-19.is, λ h. refl, omega arith)

pub returns-in-23 : goal.returns-in-23
unfolding type_of type_numbered
returns-in-23 c = (ap (λ (n : ℕ). type_of (n + 64)) c.in-23.is, λ h. refl, omega arith)

pub returns-in-24 : goal.returns-in-24
unfolding type_of type_numbered
returns-in-24 c = (ap (λ (n : ℕ). type_of (n + 64)) c.in-24.is, λ h. refl, omega arith)

pub returns-in-33 : goal.returns-in-33
unfolding type_of type_numbered
returns-in-33 c = (ap (λ (n : ℕ). type_of (n + 64)) c.in-33.is, λ h. refl, omega arith)

pub returns-in-34 : goal.returns-in-34
unfolding type_of type_numbered
returns-in-34 c = (ap (λ (n : ℕ). type_of (n + 64)) c.in-34.is, λ h. refl, omega arith)

pub returns-in-35 : goal.returns-in-35
unfolding type_of type_numbered
returns-in-35 c = (ap (λ (n : ℕ). type_of (n + 64)) c.in-35.is, λ h. refl, omega arith)

pub returns-in-40 : goal.returns-in-40
unfolding type_of type_numbered
returns-in-40 c = (ap (λ (n : ℕ). type_of (n + 64)) c.in-40.is, λ h. refl, omega arith)

pub returns-in-41 : goal.returns-in-41
unfolding type_of type_numbered
returns-in-41 c = (ap (λ (n : ℕ). type_of (n + 64)) c.in-41.is, λ h. refl, omega arith)

pub returns-in-49 : goal.returns-in-49
unfolding type_of type_numbered
returns-in-49 c = (ap (λ (n : ℕ). type_of (n + 64)) c.in-49.is, λ h. refl, omega arith)

pub returns-in-50 : goal.returns-in-50
unfolding type_of type_numbered
returns-in-50 c = (ap (λ (n : ℕ). type_of (n + 64)) c.in-50.is, λ h. refl, omega arith)

pub returns-in-51 : goal.returns-in-51
unfolding type_of type_numbered
returns-in-51 c = (ap (λ (n : ℕ). type_of (n + 64)) c.in-51.is, λ h. refl, omega arith)

pub returns-in-55 : goal.returns-in-55
unfolding type_of type_numbered
returns-in-55 c = (ap (λ (n : ℕ). type_of (n + 64)) c.in-55.is, λ h. refl, omega arith)

pub returns-in-56 : goal.returns-in-56
unfolding type_of type_numbered
returns-in-56 c = (ap (λ (n : ℕ). type_of (n + 64)) c.in-56.is, λ h. refl, omega arith)

apart : (n k : ℕ) → (n ≡ k → ⊥) → eqb (n + 64) (k + 64) ≡ false
apart n k h = ne_eqb (n + 64) (k + 64) (λ e. h (omega arith))

-- n is the number of no type character
abbrev Misses : ℕ → Type 0
Misses n =
    (n ≡ 33 → ⊥)
    × (n ≡ 1 → ⊥)
    × (n ≡ 34 → ⊥)
    × (n ≡ 2 → ⊥)
    × (n ≡ 40 → ⊥)
    × (n ≡ 8 → ⊥)
    × (n ≡ 35 → ⊥)
    × (n ≡ 51 → ⊥)
    × (n ≡ 19 → ⊥)
    × (n ≡ 41 → ⊥)
    × (n ≡ 9 → ⊥)
    × (n ≡ 55 → ⊥)
    × (n ≡ 23 → ⊥)
    × (n ≡ 50 → ⊥)
    × (n ≡ 18 → ⊥)
    × (n ≡ 49 → ⊥)
    × (n ≡ 17 → ⊥)
    × (n ≡ 56 → ⊥)
    × (n ≡ 24 → ⊥)
    × (n ≡ 0 → ⊥)

other : (n : ℕ) → Misses n → type_of (n + 64) ≡ None
unfolding type_of
other n h = rw (apart n 33 h.0, apart n 1 h.1, apart n 34 h.2, apart n 2 h.3, apart n 40 h.4, apart n 8 h.5, apart n 35 h.6, apart n 51 h.7, apart n 19 h.8, apart n 41 h.9, apart n 9 h.10, apart n 55 h.11, apart n 23 h.12, apart n 50 h.13, apart n 18 h.14, apart n 49 h.15, apart n 17 h.16, apart n 56 h.17, apart n 24 h.18, apart n 0 h.19)

pub returns-in_default : goal.returns-in_default
unfolding type_numbered
returns-in_default c = (other _ (search rules), λ h. absurd (omega arith), omega arith)

pub returns-in_default-2 : goal.returns-in_default-2
unfolding type_numbered
returns-in_default-2 c = (other _ (search rules), λ h. absurd (omega arith), omega arith)

pub returns-in-3-to-7 : goal.returns-in-3-to-7
unfolding type_numbered
returns-in-3-to-7 c = (other _ (search rules), λ h. absurd (omega arith), omega arith)

pub returns-in-3-to-7-2 : goal.returns-in-3-to-7-2
unfolding type_numbered
returns-in-3-to-7-2 c = (other _ (search rules), λ h. absurd (omega arith), omega arith)

pub returns-in-3-to-7-3 : goal.returns-in-3-to-7-3
unfolding type_numbered
returns-in-3-to-7-3 c = (other _ (search rules), λ h. absurd (omega arith), omega arith)
