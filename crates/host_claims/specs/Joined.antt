-- Records composed of parts (02, M-113), of curlew_pack: texts joined, and slot bytes joined. The proof is in
-- proofs/Joined.antt.
use Rattle.std.specs.Prelude.{ℕ, ◌≤◌, ◌≡◌, true, List, [], ◌∷◌, ◌++◌, length, T}
use Rattle.layout.specs.declared.Field.{Field}
use Rattle.layout.specs.Refusals.{ok}
use Rattle.layout.specs.Layout.{fields_of}
use Rattle.record.specs.Geometry.{sizes_fit}
use Rattle.joining.specs.Claim.{forward}
use Rattle.host.specs.Numbers.{numbers_in}
use Rattle.host.specs.Host.{reply_size}
use Rattle.host_record.specs.Packing.{curlew_pack}
use Rattle.host_claims.specs.Seen.{Lends, result_in, filled_with}

-- a layout without X and @ and its slots, which curlew_pack accepts by themselves over the area, in a buffer of their
-- own
pub record HostPart (area : List ℕ) : Type 0 where
  pub text : List ℕ
  pub slots : List ℕ
  pub output : List ℕ
  pub reply : List ℕ
  pub fields : List Field
  pub lends : Lends slots reply reply_size
  pub has-fields : fields_of true text ≡ ok fields
  pub goes-forward : T (forward fields)
  pub accepted : (curlew_pack text slots area output reply).returned ≡ 0

-- the result of a part by itself: as many bytes as its reply says
abbrev pub alone : {area : List ℕ} → HostPart area → List ℕ
alone {area} p = result_in (curlew_pack p.text p.slots area p.output p.reply)

-- Packing by the text over the area gives bs, in every buffer that has room and where number 1 does not apply.
abbrev pub HostGives : List ℕ → List ℕ → List ℕ → List ℕ → Type 0
HostGives area text slots bs =
    (output reply : List ℕ) → length reply ≡ reply_size → T (sizes_fit text (numbers_in slots) output area)
    → length bs ≤ length output → curlew_pack text slots area output reply ≡ filled_with output bs

pub record HostJoining (area : List ℕ) : Type 0 where
  -- two parts joined, with nothing between the texts, give their results joined
  pub two : (a b : HostPart area) → HostGives area (a.text ++ b.text) (a.slots ++ b.slots) (alone a ++ alone b)
  -- two parts joined, with a space between the texts, give their results joined
  pub spaced : (a b : HostPart area)
      → HostGives area (a.text ++ (32 ∷ []) ++ b.text) (a.slots ++ b.slots) (alone a ++ alone b)
  -- the empty layout, with no slots, changes no call, before or after
  pub blank :
      (text slots output reply : List ℕ)
      → (curlew_pack ([] ++ text) ([] ++ slots) area output reply ≡ curlew_pack text slots area output reply)
      × (curlew_pack (text ++ []) (slots ++ []) area output reply ≡ curlew_pack text slots area output reply)
  -- three parts give their three results, whichever two are joined first
  pub three :
      (a b c : HostPart area)
      → HostGives area ((a.text ++ b.text) ++ c.text) ((a.slots ++ b.slots) ++ c.slots)
      (alone a ++ alone b ++ alone c)
      × HostGives area (a.text ++ (b.text ++ c.text)) (a.slots ++ (b.slots ++ c.slots))
      (alone a ++ alone b ++ alone c)

-- COMPOSING for a C program, over any area
abbrev pub HostJoined : Type 0
HostJoined = (area : List ℕ) → HostJoining area
