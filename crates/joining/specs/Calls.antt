-- Two packings one after the other into one buffer, as `pack_both` makes them, and what M-113 says of the two.
use Rattle.std.specs.Prelude.{ℕ, ◌≡◌, true, List, ◌++◌, length, drop, T}
use Rattle.layout.specs.declared.Field.{Field}
use Rattle.layout.specs.Refusals.{Result, ok, ◌>>=◌}
use Rattle.layout.specs.Layout.{fields_of}
use Rattle.record.specs.declared.Answer.{Answer}
use Rattle.record.specs.Geometry.{sizes_fit}
use Rattle.record.specs.Packing.{packs, Packed, pack_effect}
use Rattle.joining.specs.Claim.{forward, Template, join_templates, pack_by}

-- all that the call goes by: two templates, an area for both, and a buffer
pub record Pair : Type 0 where
  pub first : Template
  pub second : Template
  pub area : List ℕ
  pub output : List ℕ

-- both templates as one
abbrev pub whole : Pair → Template
whole c = join_templates c.first c.second

-- the result of a template in a buffer, or its first refusal
abbrev pub packs_by : Template → List ℕ → List ℕ → Result (List ℕ)
packs_by t area output = packs t.text t.slots area output

-- both results, the second of which has the buffer after the first; or the first refusal
unfoldable pub packs_both : Pair → Result (List ℕ)
packs_both c = do
  bs ← packs_by c.first c.area c.output
  cs ← packs_by c.second c.area (drop (length bs) c.output)
  ok (bs ++ cs)

-- ---- M-113 of the two packings

-- layouts without `X` and `@`, and a whole that meets the sizes
pub record Joinable (c : Pair) : Type 0 where
  pub first-fields : List Field
  pub second-fields : List Field
  pub first-has : fields_of true c.first.text ≡ ok first-fields
  pub second-has : fields_of true c.second.text ≡ ok second-fields
  pub first-forward : T (forward first-fields)
  pub second-forward : T (forward second-fields)
  pub sizes : T (sizes_fit (whole c).text (whole c).slots c.output c.area)

-- THE EFFECT OF A CALL of `pack_both`: both results joined, or the first refusal and no byte changed; and it is that of
-- packing by the joined template
pub record PacksBothAs (c : Pair) (p : Packed) : Type 0 where
  pub effect : p ≡ pack_effect c.output (packs_both c)
  pub joined : Joinable c → p.answer.number ≡ 0
      → p ≡ pack_by (whole c) c.area c.output

-- ---- the contract

-- what is lent to a call
abbrev pub pair_of : List ℕ → List ℕ → List ℕ → List ℕ → List ℕ → List ℕ → Pair
pair_of first first_slots second second_slots area output = record {
  first = record { text = first; slots = first_slots };
  second = record { text = second; slots = second_slots };
  area = area;
  output = output;
}

-- what a call promises that answered r
abbrev pub PacksBoth : List ℕ → List ℕ → List ℕ → List ℕ → List ℕ → List ℕ → List ℕ → Answer → Type 0
PacksBoth first first_slots second second_slots area output output' r =
    PacksBothAs (pair_of first first_slots second second_slots area output) (record { answer = r; output = output' })
