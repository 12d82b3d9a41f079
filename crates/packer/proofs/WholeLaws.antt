-- Which way a call goes, on plain values: each answer of the code is that of the definition.
use Prim.Native.Nat.{ℕ, ◌/◌}
use mathlib.Core.Path.{◌≡◌, sym, ◌∙◌}
use mathlib.Core.Bool.{true, false}
use mathlib.Core.List.{List}
use borrow.Author.Tests.{eq-eqb, ne_eqb}
use lib.Dec.{eqb}
use lib.ListN.{length}
use Rattle.layout.specs.declared.Field.{Field}
use Rattle.layout.specs.declared.Refusal.{Refusal}
use Rattle.layout.specs.declared.Refusal.TheVariants.{BadSize, BadSlots}
use Rattle.layout.specs.declared.Fields.{Fields}
use Rattle.layout.specs.declared.Refused.{Refused}
use Rattle.std.specs.declared.result.Result as Std
use Rattle.layout.specs.Refusals.{Result, ok, refused}
use Rattle.layout.specs.Layout.{fields_of, slot_count}
use Rattle.layout.specs.inside.Parsing.{Parses}
use Rattle.layout.proofs.Places.{refused-inside}
use Rattle.record.specs.declared.Answer.{Answer}
use Rattle.record.specs.Table.{slots_of, slot_width}
use Rattle.record.specs.Geometry.{lengths_fit}
use Rattle.record.specs.Packing.{finished, refusal, pack_effect, pack_fields, pack}
use Rattle.record.proofs.ByFields.{pack-fields}
use Rattle.packer.specs.inside.Whole.{FieldsRead, PacksAsRead}
use Rattle.record.proofs.Sizes.{Sized, sized}
use Rattle.record.proofs.Tables.{length-slots}

-- ---- the whole call

module _ (size : ℕ) (o : Result (List Field)) (slots area output : List ℕ) where
  pub pack-sizes : lengths_fit size (length slots) (length output) (length area) ≡ false
      → record { answer = refusal BadSize 0; output = output } ≡ pack_fields size o slots area output
  unfolding pack_fields
  pack-sizes h = simp h

  module _ (fine : lengths_fit size (length slots) (length output) (length area) ≡ true) where
    pub pack-refused : (why : Refusal) (place : ℕ) → o ≡ refused why place → record { answer = refusal why place; output = output } ≡ pack_fields size o slots area output
    unfolding pack_fields
    pack-refused why place e = simp (fine, e)

    module _ (fs : List Field) (e : o ≡ ok fs) where
      pub pack-slots : eqb (length (slots_of slots)) (slot_count fs) ≡ false → record { answer = refusal BadSlots 0; output = output } ≡ pack_fields size o slots area output
      unfolding pack_fields
      pack-slots h = simp (fine, e, h)

      pub pack-finish : eqb (length (slots_of slots)) (slot_count fs) ≡ true → pack_effect output (finished area (slots_of slots) fs output) ≡ pack_fields size o slots area output
      unfolding pack_fields finished
      pack-finish h = simp (fine, e, h)

-- the limits that are checked before the fields are read
pub read-sized : {p : Std.Result Fields Refused} {ws slots area output : List ℕ} {size : ℕ} {o : Result (List Field)} → FieldsRead p ws slots area output size o → Sized size (length slots) (length output) (length area)
read-sized j = sized j.fine

-- ---- by a layout

module _ (layout slots area output : List ℕ) where
  pub layout-sizes : lengths_fit (length layout) (length slots) (length output) (length area) ≡ false
      → record { answer = refusal BadSize 0; output = output } ≡ pack layout slots area output
  layout-sizes h = pack-sizes (length layout) (fields_of true layout) slots area output h ∙ sym (pack-fields layout slots area output)

  module _ {p : Std.Result Fields Refused} {ws : List ℕ} (fine : lengths_fit (length layout) (length slots) (length output) (length area) ≡ true) (parsed : Parses (fields_of true layout) p ws) where
    pub layout-read : FieldsRead p ws slots area output (length layout) (fields_of true layout)
    layout-read = record { fine = fine; parsed = parsed; inside = refused-inside true layout }

    pub layout-packed : {r : Answer} {out : List ℕ} → PacksAsRead p ws slots area output r out → record { answer = r; output = out } ≡ pack layout slots area output
    layout-packed h = h (length layout) (fields_of true layout) layout-read ∙ sym (pack-fields layout slots area output)

-- ---- number 5

module _ (ns : List ℕ) (needed count : ℕ) (e : needed ≡ count) where
  pub other-slots : (length ns / slot_width ≡ needed → ⊥) → eqb (length (slots_of ns)) count ≡ false
  other-slots h = ne_eqb (length (slots_of ns)) count (λ q. h (sym (length-slots ns) ∙ q ∙ sym e))

  pub same-slots : length ns / slot_width ≡ needed → eqb (length (slots_of ns)) count ≡ true
  same-slots h = eq-eqb (length (slots_of ns)) count (length-slots ns ∙ h ∙ e)
