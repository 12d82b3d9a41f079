-- The quick test on plain values: where it passes, no line of the exact check is due.
use Prim.Native.Nat.{ℕ, ◌*◌, ◌%◌, ◌≤◌, ◌<◌}
use native.Mathlib.Omega.{arith}
use mathlib.Core.Path.{◌≡◌, refl, sym, ◌∙◌}
use mathlib.Core.Bool.{Bool, true, false}
use mathlib.Core.List.{List}
use borrow.Author.Tests.{le-leb, eq-eqb, ne_eqb}
use lib.Dec.{eqb, leb, ltb}
use lib.ListN.{length, take}
use Rattle.layout.specs.declared.Shape.{Shape}
use Rattle.layout.specs.declared.Shape.TheVariants.{Text, Digits, Integers, Reals}
use Rattle.layout.specs.declared.Count.{Count}
use Rattle.layout.specs.declared.Count.TheVariants.{Absent, Star, Times}
use Rattle.layout.specs.Refusals.{ok}
use Rattle.layout.specs.Codes.{last_text, last_binary, last_digits, last_integers, last_single, last_data, width_numbered}
use Rattle.layout.specs.inside.Parsing.{shape_numbered}
use Rattle.layout.proofs.Numbered.{shape-text, shape-digits, shape-integers, shape-reals}
use Rattle.record.specs.declared.slots.Slot.{Slot}
use Rattle.record.specs.Table.{string, is_integers, real, shown}
use Rattle.record.specs.Slots.{is_inside}
use Rattle.record.specs.Geometry.{amount}
use Rattle.record.specs.Packing.{kind_fits, enough, amount_fits, digits_fit, all_digits, reals_fit, argument_fits}
use Rattle.pack_check.specs.inside.quick_check.{Serves}

-- no test both fails and passes
pub untrue : {X : Type 0} → false ≡ true → X
untrue e = let z : ◌≡◌ {A = ℕ} 0 1 = cc in absurd (omega arith)

-- items that a field takes all of are enough by any count
all-taken : (n : Count) (items have : ℕ) → items ≡ amount n have → items ≡ have → enough n have ≡ true
all-taken Absent items have same all = eq-eqb have 1 (omega arith)
all-taken Star items have same all = refl
all-taken (Times m) items have same all = le-leb m have (omega arith)

-- a kind of integers is set
integers-set : (kind : ℕ) → is_integers kind ≡ true → eqb kind 0 ≡ false
integers-set kind e = grind arith

module _ (area : List ℕ) (n : Count) (a : Slot) (inside : is_inside a (length area) ≡ true) where
  -- no line is due
  fine : (s : Shape) → eqb a.kind 0 ≡ false → kind_fits s a.kind ≡ true → amount_fits s n a.len ≡ true → digits_fit s (amount n a.len) (shown area a).items ≡ true
      → reals_fit s (amount n a.len) (shown area a).items ≡ true → (k : ℕ) → argument_fits area s n k a ≡ ok tt
  unfolding argument_fits
  fine s e₁ e₂ e₃ e₄ e₅ k = simp (e₁, inside, e₂, e₃, e₄, e₅)

  module _ (items : ℕ) (same : items ≡ amount n a.len) where
    pub integers-serve : (d : ℕ) → last_digits < d → d ≤ last_integers → is_integers a.kind ≡ true → (t : Bool) → (t ≡ true → items ≡ a.len) → Serves t area (shape_numbered d) n a
    unfolding digits_fit reals_fit
    integers-serve d l m h t all =
        record { fits = λ e. rw (shape-integers d l m) (fine (Integers (width_numbered d) (eqb (d % 2) 1)) (integers-set a.kind h) h (all-taken n items a.len same (all e)) refl refl) }

    pub reals-serve : (d : ℕ) → last_integers < d → d ≤ last_data → a.kind ≡ real → items ≡ a.len
        → (t : Bool) → ((big : Bool) → t ≡ reals_fit (Reals (leb d last_single) big) items (shown area a).items) → Serves t area (shape_numbered d) n a
    unfolding digits_fit
    reals-serve d l m h all t q =
        let big : Bool = eqb (d % 2) 1 in
        record {
          fits = λ e.
              rw (shape-reals d l m)
              (fine (Reals (leb d last_single) big) (ne_eqb a.kind 0 (λ x. omega arith)) (eq-eqb a.kind real h) (all-taken n items a.len same all) refl (rw (← same) (sym (q big) ∙ e)));
        }

    module _ (h : a.kind ≡ string) where
      kind : eqb a.kind string ≡ true
      kind = eq-eqb a.kind string h

      set : eqb a.kind 0 ≡ false
      set = ne_eqb a.kind 0 (λ x. omega arith)

      pub text-serves : (d : ℕ) → d ≤ last_text → (t : Bool) → Serves t area (shape_numbered d) n a
      unfolding digits_fit reals_fit
      text-serves d l t = record { fits = λ e. rw (shape-text d l) (fine (Text (32 * d)) set kind refl refl refl) }

      pub digits-serve : (d : ℕ) → last_text < d → d ≤ last_digits → (t : Bool) → t ≡ all_digits (ltb last_binary d) (take items (shown area a).items) → Serves t area (shape_numbered d) n a
      unfolding digits_fit reals_fit
      digits-serve d l m t q =
          let hex : Bool = ltb last_binary d in
          let high : Bool = eqb (d % 2) 1 in
          record {
            fits = λ e.
                rw (shape-digits d l m)
                (fine (Digits hex high) set kind refl (rw (← same) (sym q ∙ e)) refl);
          }
