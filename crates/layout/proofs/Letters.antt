-- A byte outside the 64 from `@` on names no type: every type character stands among those, and so differs from it.
use Prim.Native.Nat.{ℕ, ◌/◌}
use mathlib.Core.Path.{◌≡◌, refl, ap, ◌∙◌}
use mathlib.Core.Bool.{false}
use borrow.Author.Tests.{ne_eqb}
use lib.Dec.{eqb}
use Rattle.std.specs.declared.option.Option.TheVariants.{None}
use Rattle.layout.specs.Layout.{type_of}

module _ (c : ℕ) (outside : c / 64 ≡ 1 → ⊥) where
  apart : (k : ℕ) → k / 64 ≡ 1 → eqb c k ≡ false
  apart k e = ne_eqb c k (λ same. outside (ap (λ (n : ℕ). n / 64) same ∙ e))

  pub no-letter : type_of c ≡ None
  unfolding type_of
  no-letter =
      rw (
        apart 97 refl,
        apart 65 refl,
        apart 98 refl,
        apart 66 refl,
        apart 104 refl,
        apart 72 refl,
        apart 99 refl,
        apart 115 refl,
        apart 83 refl,
        apart 105 refl,
        apart 73 refl,
        apart 119 refl,
        apart 87 refl,
        apart 114 refl,
        apart 82 refl,
        apart 113 refl,
        apart 81 refl,
        apart 120 refl,
        apart 88 refl,
        apart 64 refl,
      )
