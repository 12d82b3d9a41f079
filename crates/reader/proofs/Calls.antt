-- What each way out of a reading by a layout leaves: it is the reading by its fields.
use Prim.Native.Nat.{ℕ}
use mathlib.Core.Path.{◌≡◌, sym, ◌∙◌}
use mathlib.Core.Bool.{false}
use mathlib.Core.List.{List}
use lib.ListN.{length}
use Rattle.layout.specs.declared.Refusal.{Refusal}
use Rattle.layout.specs.Refusals.{refused}
use Rattle.layout.specs.Layout.{fields_of}
use Rattle.layout.proofs.Decoded.{Learnt}
use Rattle.record.specs.Packing.{refusal}
use Rattle.record.specs.Reading.{reads, ReadAll, read_all}
use Rattle.record.proofs.ByFields.{read-fields}
use Rattle.reader.proofs.checking.Calls.{Fit}
use Rattle.reader.specs.inside.passes.{ReadReady, read_codes}
use Rattle.reader.proofs.passes.Whole as whole

module _ (layout bs slots area : List ℕ) (mark : ℕ) where
  pub read-refused : {why : Refusal} {p : ℕ} → reads layout bs slots area mark ≡ refused why p
      → record { answer = record { answer = refusal why p; steps = 0 }; slots = slots; area = area } ≡ read_all layout bs slots area mark
  unfolding reads
  read-refused e = whole.fields-refused (length layout) (fields_of false layout) bs slots area mark e ∙ sym (read-fields layout bs slots area mark)

  module _ (sizes : Fit (length layout) (length slots) (length bs) (length area) mark) {n taken : ℕ} {ws : List ℕ} (l : Learnt (fields_of false layout) n taken ws) where
    -- a reading by the fields of the codes is the reading by the layout
    pub codes-read : {e : ReadAll} → e ≡ read_codes n taken ws bs slots area mark → e ≡ read_all layout bs slots area mark
    codes-read q = whole.fields_read (length layout) (fields_of false layout) bs slots area mark sizes l q ∙ sym (read-fields layout bs slots area mark)

    pub ready : ReadReady n taken ws bs slots area mark
    ready = whole.ready (length layout) (fields_of false layout) bs slots area mark sizes l
