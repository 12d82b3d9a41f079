-- What a whole call leaves, by fields that stand in a run of `size` bytes or numbers: a refusal, or what a reading by
-- the codes of the fields leaves.
use Prim.Native.Nat.{ℕ}
use mathlib.Core.Path.{◌≡◌, refl, ap, ◌∙◌}
use mathlib.Core.List.{List}
use lib.ListN.{length}
use Rattle.layout.specs.declared.Field.{Field}
use Rattle.layout.specs.declared.Refusal.{Refusal}
use Rattle.layout.specs.Refusals.{Result, ok, refused}
use Rattle.layout.specs.inside.Parsing.{decoded}
use Rattle.layout.proofs.Decoded.{Learnt}
use Rattle.record.specs.Table.{Value}
use Rattle.record.specs.Packing.{refusal}
use Rattle.record.specs.Reading.{positions_from, steps_from, reads_fields, put_into, ReadAll, with_steps, read_fields}
use Rattle.reading.specs.inside.Tables.{put_all}
use Rattle.reader.proofs.checking.Calls.{Fit, Fits, fitted}
use Rattle.reader.specs.inside.passes.{ReadReady, read_fitting, read_codes}

module _ (size : ℕ) (o : Result (List Field)) (bs slots area : List ℕ) (mark : ℕ) where
  pub fields-refused : {why : Refusal} {p : ℕ} → reads_fields size o bs slots area mark ≡ refused why p
      → record { answer = record { answer = refusal why p; steps = 0 }; slots = slots; area = area } ≡ read_fields size o bs slots area mark
  unfolding read_fields
  fields-refused e = rw e

  fields-put : {e : ReadAll} {vs : List Value} {n taken : ℕ} {ws : List ℕ} → Learnt o n taken ws → reads_fields size o bs slots area mark ≡ ok vs
      → e ≡ with_steps (put_into slots area mark (positions_from (length bs) 0 (decoded n ws)) vs) (steps_from (length bs) 0 (decoded n ws)) → e ≡ read_fields size o bs slots area mark
  unfolding read_fields
  fields-put l h q = q ∙ rw (h, l.fields)

  module _ (sizes : Fit size (length slots) (length bs) (length area) mark) {n taken : ℕ} {ws : List ℕ} (l : Learnt o n taken ws) where
    -- a reading by the fields of the codes is the reading by the fields
    pub fields_read : {e : ReadAll} → e ≡ read_codes n taken ws bs slots area mark → e ≡ read_fields size o bs slots area mark
    unfolding read_codes
    fields_read {e} q =
        let all : ReadAll = put_all n ws bs slots area mark in
        fitted size o bs slots area mark sizes l refl
        (λ why h x. q ∙ ap (λ (a : Fits). read_fitting a all slots area) x ∙ fields-refused h)
        (λ h few x. fields-put l h (q ∙ ap (λ (a : Fits). read_fitting a all slots area) x))

    pub ready : ReadReady n taken ws bs slots area mark
    ready =
        record {
          few = l.few;
          room = l.room;
          count = l.taken;
          whole = sizes.whole;
          table = sizes.table;
          limit = sizes.limit;
          start = sizes.start;
        }
