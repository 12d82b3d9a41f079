-- Records packed by layouts one after the other (02, M-113): one claim about packing by layouts joined, over one area.
-- Each part names the words of the request that it states. The proof is in proofs/Joining.antt.
use Rattle.std.specs.Prelude.{ℕ, ◌≤◌, ◌≡◌, Bool, true, ◌&&◌, List, [], ◌∷◌, ◌++◌, length, T}
use Rattle.layout.specs.declared.Field.{Field}
use Rattle.layout.specs.Refusals.{ok}
use Rattle.layout.specs.Layout.{fields_of}
use Rattle.record.specs.Geometry.{sizes_fit}
use Rattle.record.specs.Packing.{Packed, pack, pack_effect}
use Rattle.runs.specs.Ends.{plain_role, record_of}

-- ---- which layouts (02, M-113, the types that it leaves out)

-- The cursor only goes forward: no field is `X` or `@`. A count may be a star, and the flag `u` (02, M-101) may stand
-- in any field.
unfoldable pub forward : List Field → Bool
forward [] = true
forward (f ∷ fs) = plain_role f.role && forward fs

-- ---- templates

-- a layout and the slots that are packed by it, `slot_width` numbers to a slot
pub record Template : Type 0 where
  pub text : List ℕ
  pub slots : List ℕ

-- two texts joined with nothing between them, and their slots
abbrev pub join_templates : Template → Template → Template
join_templates a b = record { text = a.text ++ b.text; slots = a.slots ++ b.slots }

-- the empty layout, which has no slots
abbrev pub empty_template : Template
empty_template = record { text = []; slots = [] }

-- the call of the packer
abbrev pub pack_by : Template → List ℕ → List ℕ → Packed
pack_by t area output = pack t.text t.slots area output

-- ---- the premise (02, M-113, its last sentence): what holds of each part; what the whole needs stands in `Gives`

-- a forward template that the packer accepts by itself over the area, in a buffer of its own
pub record Part (area : List ℕ) : Type 0 where
  pub template : Template
  pub output : List ℕ
  pub fields : List Field
  pub has-fields : fields_of true template.text ≡ ok fields
  pub goes-forward : T (forward fields)
  pub accepted : (pack_by template area output).answer.number ≡ 0

-- the result of a part by itself
abbrev pub result_of : {area : List ℕ} → Part area → List ℕ
result_of {area} p = record_of (pack_by p.template area p.output)

-- ---- the claim

-- Packing by t over the area gives bs, in every buffer that has room and where number 1 does not apply: the answer is
-- 0, the length of bs, 0, and the bytes of the buffer past bs stay.
abbrev pub Gives : List ℕ → Template → List ℕ → Type 0
Gives area t bs =
    (output : List ℕ) → T (sizes_fit t.text t.slots output area) → length bs ≤ length output
    → pack_by t area output ≡ pack_effect output (ok bs)

pub record Joining (area : List ℕ) : Type 0 where
  -- two parts joined give the two results joined
  pub two : (a b : Part area) → Gives area (join_templates a.template b.template) (result_of a ++ result_of b)
  -- a joined text has the fields of the first part and then those of the second: nothing of the second continues a
  -- field of the first
  pub fields : (a b : Part area) → fields_of true (a.template.text ++ b.template.text) ≡ ok (a.fields ++ b.fields)
  -- the empty layout adds nothing to any call, accepted or not, on either side
  pub blank-first : (t : Template) (output : List ℕ)
      → pack_by (join_templates empty_template t) area output ≡ pack_by t area output
  pub blank-second : (t : Template) (output : List ℕ)
      → pack_by (join_templates t empty_template) area output ≡ pack_by t area output
  -- three templates joined are the same call, accepted or not, whichever pair is joined first
  pub three-same : (a b c : Template) (output : List ℕ)
      → pack_by (join_templates (join_templates a b) c) area output
      ≡ pack_by (join_templates a (join_templates b c)) area output
  -- three parts joined give their three results joined
  pub three :
      (a b c : Part area)
      → Gives area (join_templates (join_templates a.template b.template) c.template)
      (result_of a ++ result_of b ++ result_of c)
