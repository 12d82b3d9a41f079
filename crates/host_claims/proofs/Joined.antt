-- Each packing is the packing of the numbers in its slots, and joined slots hold joined numbers: so M-113, which is
-- proved of numbers, holds of bytes. A space is a part without slots that packs nothing.
use Prim.Native.Nat.{ℕ, ◌≤◌}
use native.Mathlib.Omega.{arith}
use mathlib.Core.Path.{◌≡◌, refl, sym, ap, ap₂, ◌∙◌, subst}
use mathlib.Core.List.{List, [], ◌∷◌, ◌++◌, append-nil, append_assoc}
use borrow.Author.Tests.{le-leb}
use lib.Dec.{T}
use lib.ListN.{length}
use Rattle.layout.specs.Layout.{fields_of, slot_count}
use Rattle.record.specs.Table.{max_record, max_area, slots_of}
use Rattle.record.specs.Geometry.{sizes_fit}
use Rattle.record.specs.Packing.{accepted, Packed, finished, packs, pack}
use Rattle.record.proofs.Sizes.{Sized, sized}
use Rattle.runs.specs.Ends.{record_of}
use Rattle.runs.proofs.Calls.{packs-passed, accepted-result}
use Rattle.joining.specs.Claim.{forward, Template, join_templates, Part as NumbersPart, result_of as numbers_result, Gives as NumbersGive}
use Rattle.joining.proofs.Joining.{joins}
use Rattle.host.specs.Numbers.{numbers_in}
use Rattle.host.specs.Host.{PackCall, pack_call}
use Rattle.host_record.specs.Packing.{curlew_pack}
use Rattle.host_claims.specs.Seen.{Slots, result_in}
use Rattle.host_claims.specs.Joined.{HostPart, alone, HostGives, HostJoining, HostJoined}
use Rattle.host_claims.proofs.Laws.{pack-served, result-is, slots-both, numbers-both}

-- an accepted packing keeps to the sizes, and its result is as long as the answer says
record Accepted (text ns area output : List ℕ) : Type 0 where
  sizes : Sized (length text) (length ns) (length output) (length area)
  short : (pack text ns area output).answer.first ≤ max_record

accepted-sizes : (text ns area output : List ℕ) → (pack text ns area output).answer.number ≡ 0
    → Accepted text ns area output
unfolding pack
accepted-sizes text ns area output z =
    let (bs, e) = accepted-result output (packs text ns area output) z in
    let (fs, p) = packs-passed text ns area output bs e in
    let all : Sized (length text) (length ns) (length output) (length area) = sized p.sizes in
    record { sizes = all; short = rw e (omega (arith, p.room, all.whole)) }

module _ (area : List ℕ) where
  -- ---- a part, over numbers

  module _ (a : HostPart area) where
    as-packed : curlew_pack a.text a.slots area a.output a.reply
        ≡ pack_call (pack a.text (numbers_in a.slots) area a.output)
    as-packed = pack-served a.slots a.reply a.text area a.output a.lends

    accepts : (pack a.text (numbers_in a.slots) area a.output).answer.number ≡ 0
    unfolding pack_call
    accepts = sym (ap (λ (c : PackCall). c.returned) as-packed) ∙ a.accepted

    over-numbers : NumbersPart area
    over-numbers = record {
      template = record { text = a.text; slots = numbers_in a.slots };
      output = a.output;
      fields = a.fields;
      has-fields = a.has-fields;
      goes-forward = a.goes-forward;
      accepted = accepts;
    }

    result-same : alone a ≡ numbers_result over-numbers
    unfolding over-numbers
    result-same =
        ap result_in as-packed
        ∙ result-is (pack a.text (numbers_in a.slots) area a.output)
        (omega (arith, (accepted-sizes a.text (numbers_in a.slots) area a.output accepts).short))

  -- what holds of numbers holds of the slots that hold them
  gives : (text slots bs : List ℕ) (ns : List ℕ) → Slots slots → numbers_in slots ≡ ns
      → NumbersGive area (record { text = text; slots = ns }) bs → HostGives area text slots bs
  unfolding pack_call
  gives text slots bs ns s e g output reply size fits room =
      pack-served slots reply text area output (record { are-slots = s; reply-size = size })
      ∙ ap (λ (xs : List ℕ). pack_call (pack text xs area output)) e
      ∙ ap pack_call (g output (subst (λ (xs : List ℕ). T (sizes_fit text xs output area)) e fits) room)

  two : (a b : HostPart area) → HostGives area (a.text ++ b.text) (a.slots ++ b.slots) (alone a ++ alone b)
  unfolding over-numbers
  two a b =
      gives (a.text ++ b.text) (a.slots ++ b.slots) (alone a ++ alone b)
      (numbers_in a.slots ++ numbers_in b.slots)
      (slots-both a.slots b.slots a.lends.are-slots b.lends.are-slots)
      (numbers-both a.slots b.slots a.lends.are-slots)
      (rw (result-same a, result-same b) ((joins area).two (over-numbers a) (over-numbers b)))

  -- ---- a space between them

  space-accepted : length area ≤ max_area → pack (32 ∷ []) [] area [] ≡ record { answer = accepted 0 0; output = [] }
  unfolding pack packs fields_of slots_of slot_count finished
  space-accepted h = rw (le-leb (length area) max_area h)

  space : length area ≤ max_area → NumbersPart area
  unfolding fields_of forward
  space h = record {
    template = record { text = 32 ∷ []; slots = [] };
    output = [];
    fields = [];
    has-fields = refl;
    goes-forward = tt;
    accepted = ap (λ (p : Packed). p.answer.number) (space-accepted h);
  }

  spaced : (a b : HostPart area) → HostGives area (a.text ++ (32 ∷ []) ++ b.text) (a.slots ++ b.slots) (alone a ++ alone b)
  unfolding over-numbers space
  spaced a b =
      let limit : length area ≤ max_area =
      (accepted-sizes a.text (numbers_in a.slots) area a.output (accepts a)).sizes.lent.limit in
      let front : numbers_result (over-numbers a) ++ numbers_result (space limit) ≡ alone a =
      ap (λ (bs : List ℕ). numbers_result (over-numbers a) ++ bs) (ap record_of (space-accepted limit))
      ∙ append-nil (numbers_result (over-numbers a))
      ∙ sym (result-same a) in
      let all : numbers_result (over-numbers a) ++ numbers_result (space limit) ++ numbers_result (over-numbers b)
      ≡ alone a ++ alone b = ap₂ (λ (x y : List ℕ). x ++ y) front (sym (result-same b)) in
      let t : Template = join_templates (join_templates (over-numbers a).template (space limit).template) (over-numbers b).template in
      gives (a.text ++ (32 ∷ []) ++ b.text) (a.slots ++ b.slots) (alone a ++ alone b)
      (numbers_in a.slots ++ [] ++ numbers_in b.slots)
      (slots-both a.slots b.slots a.lends.are-slots b.lends.are-slots)
      (rw append-nil (numbers-both a.slots b.slots a.lends.are-slots))
      (subst (NumbersGive area t) all ((joins area).three (over-numbers a) (space limit) (over-numbers b)))

  -- ---- three

  three : (a b c : HostPart area)
      → HostGives area ((a.text ++ b.text) ++ c.text) ((a.slots ++ b.slots) ++ c.slots)
      (alone a ++ alone b ++ alone c)
  unfolding over-numbers
  three a b c =
      let both : Slots (a.slots ++ b.slots) =
      slots-both a.slots b.slots a.lends.are-slots b.lends.are-slots in
      gives ((a.text ++ b.text) ++ c.text) ((a.slots ++ b.slots) ++ c.slots) (alone a ++ alone b ++ alone c)
      (numbers_in a.slots ++ numbers_in b.slots ++ numbers_in c.slots)
      (slots-both (a.slots ++ b.slots) c.slots both c.lends.are-slots)
      (numbers-both (a.slots ++ b.slots) c.slots both
      ∙ ap (λ (ns : List ℕ). ns ++ numbers_in c.slots) (numbers-both a.slots b.slots a.lends.are-slots))
      (rw (result-same a, result-same b, result-same c)
      ((joins area).three (over-numbers a) (over-numbers b) (over-numbers c)))

  host-joining : HostJoining area
  host-joining = record {
    two = two;
    spaced = spaced;
    blank =
        λ text slots output reply.
        (refl, ap₂ (λ (x y : List ℕ). curlew_pack x y area output reply) (append-nil text) (append-nil slots));
    three =
        λ a b c.
        let texts = append_assoc a.text b.text c.text in
        let slots = append_assoc a.slots b.slots c.slots in
        (three a b c, rw (← texts, ← slots) (three a b c));
  }

pub host-joined : HostJoined
host-joined = host-joining
