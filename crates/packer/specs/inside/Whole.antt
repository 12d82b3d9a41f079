-- What is left of a call once its fields are read: the definition of packing from there on.
use Rattle.std.specs.Prelude.{ℕ, ◌<◌, ◌≡◌, true, List, length}
use Rattle.layout.specs.declared.Field.{Field}
use Rattle.layout.specs.declared.Refusal.{Refusal}
use Rattle.layout.specs.declared.Fields.{Fields}
use Rattle.layout.specs.declared.Refused.{Refused}
use Rattle.std.specs.declared.result.Result as Std
use Rattle.layout.specs.Refusals.{Result, refused}
use Rattle.layout.specs.inside.Parsing.{Parses}
use Rattle.record.specs.declared.Answer.{Answer}
use Rattle.record.specs.Geometry.{lengths_fit}
use Rattle.record.specs.Packing.{pack_fields}

-- The sizes fit, and fields, or their refusal, were read as p and these codes. They stand in a run of `size` bytes or
-- numbers: a refusal has its place there.
pub record FieldsRead (p : Std.Result Fields Refused) (ws slots area output : List ℕ) (size : ℕ) (fields : Result (List Field))
    : Type 0 where
  pub fine : lengths_fit size (length slots) (length output) (length area) ≡ true
  pub parsed : Parses fields p ws
  pub inside : (why : Refusal) (place : ℕ) → fields ≡ refused why place → place < size

abbrev pub PackReady : Std.Result Fields Refused → List ℕ → List ℕ → List ℕ → List ℕ → Type 0
PackReady p ws slots area output =
    (size : ℕ) × (fields : Result (List Field)) × FieldsRead p ws slots area output size fields

-- answer and output are those of a packing by the fields that were so read
abbrev pub PacksAsRead : Std.Result Fields Refused → List ℕ → List ℕ → List ℕ → List ℕ → Answer → List ℕ → Type 0
PacksAsRead p ws slots area output r output' =
    (size : ℕ) (fields : Result (List Field)) → FieldsRead p ws slots area output size fields
    → record { answer = r; output = output' } ≡ pack_fields size fields slots area output
