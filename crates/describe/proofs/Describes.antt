-- The proof of the claim: an accepted packing has passed every test, its pass over the fields ends at its length, and
-- the pass with starred values empty is never ahead of that.
use Prim.Native.Nat.{ℕ, ◌+◌, ◌*◌, ◌≤◌}
use native.Mathlib.Omega.{arith}
use mathlib.Core.Path.{◌≡◌, refl, sym, ap, ◌∙◌}
use mathlib.Core.Bool.{Bool, true, false}
use mathlib.Core.List.{List}
use lib.ListN.{length}
use lib.Dec.{T, leb}
use borrow.Author.Tests.{le-leb, leb-true}
use Rattle.layout.specs.declared.Field.{Field}
use Rattle.layout.specs.declared.Refusal.TheVariants.{BadSize}
use Rattle.layout.specs.Refusals.{Result, ok, refused, ◌>>=◌, demand}
use Rattle.layout.specs.Layout.{max_layout, fields_of, slot_count}
use Rattle.layout.proofs.Laws.{ok-inj, no-number-zero, packed-reads}
use Rattle.describe.proofs.Counts.{counts-limited, fields-few}
use Rattle.record.specs.declared.Answer.{Answer}
use Rattle.record.specs.declared.Cursor.{Cursor}
use Rattle.record.specs.Table.{slots_of}
use Rattle.record.specs.inside.Cursor.{origin, cursor_of}
use Rattle.record.specs.Packing.{start, pack_all, packed, filled, accepted, packs, pack, pack_effect}
use Rattle.record.proofs.Sizes.{Sized, sized}
use Rattle.pack_check.specs.inside.measuring.{arguments_checked}
use Rattle.pack_store.proofs.writing.RunLaws.{measured-as}
use Rattle.runs.proofs.Calls.{Passed, packs-passed, accepted-result}
use Rattle.describe.specs.Description.{least_length, layout_reach, field_reach, answer_of, described}
use Rattle.describe.specs.Claim.{stars_empty, Packing, length_of, Describes}
use Rattle.describe.specs.inside.Measure.{passed}
use Rattle.describe.proofs.Passing.{passed_length, never-behind, just-there, starless-empty, passed-near}

-- what a layout that fits answers
pub described-fields : (layout : List ℕ) (fs : List Field) → leb (length layout) max_layout ≡ true → fields_of true layout ≡ ok fs
    → described layout ≡ accepted (slot_count fs) (least_length fs)
unfolding described
described-fields layout fs h e = rw (h, e)

module _ (layout : List ℕ) where
  -- all that is known of an accepted packing
  record Known (p : Packing layout) : Type 0 where
    fields : List Field
    bytes : List ℕ
    tests : Passed layout p.slots p.area p.output fields bytes
    long : length_of p ≡ length bytes

  known : (p : Packing layout) → Known p
  unfolding pack
  known p =
      let (bs, e) = accepted-result p.output (packs layout p.slots p.area p.output) p.accepted in
      let (fs, t) = packs-passed layout p.slots p.area p.output bs e in
      record { fields = fs; bytes = bs; tests = t; long = ap (λ (r : Result (List ℕ)). (pack_effect p.output r).answer.first) e }

  module _ (p : Packing layout) where
    fs : List Field
    fs = (known p).fields

    answer : described layout ≡ accepted (slot_count fs) (least_length fs)
    unfolding fs
    answer =
        let limits : Sized (length layout) (length p.slots) (length p.output) (length p.area) = sized (known p).tests.sizes in
        described-fields layout fs (le-leb (length layout) max_layout limits.text) (known p).tests.fields

    -- the pass of the packing, and where it ends
    end : Cursor
    end = cursor_of (pack_all start (filled p.area (slots_of p.slots) fs))

    pass : arguments_checked p.area 0 (slots_of p.slots) fs origin ≡ ok end
    unfolding fs end
    pass = measured-as p.area fs 0 (slots_of p.slots) start (omega arith) ∙ rw (known p).tests.served

    ends : end.end ≡ length_of p
    unfolding fs end packed
    ends = ap length (known p).tests.result ∙ sym (known p).long

    accepts : (described layout).number ≡ 0
    accepts = ap (λ (a : Answer). a.number) answer

    slots : length (slots_of p.slots) ≡ (described layout).first
    unfolding fs
    slots = (known p).tests.count ∙ sym (ap (λ (a : Answer). a.first) answer)

    shortest : (described layout).second ≤ length_of p
    shortest =
        omega (arith, ap (λ (a : Answer). a.second) answer, passed_length fs, ends, (never-behind p.area fs 0 (slots_of p.slots) origin origin end (omega arith, omega arith) pass).1)

    emptied : (gs : List Field) → fields_of true layout ≡ ok gs → T (stars_empty (slots_of p.slots) gs) → length_of p ≡ (described layout).second
    unfolding fs
    emptied gs e h =
        let same : gs ≡ fs = ok-inj (sym e ∙ (known p).tests.fields) in
        let there : end ≡ passed origin fs = just-there p.area fs 0 (slots_of p.slots) origin end (rw same at h) pass in
        sym ends ∙ ap (λ (c : Cursor). c.end) there ∙ passed_length fs ∙ sym (ap (λ (a : Answer). a.second) answer)

  -- ---- the bound

  within : (fs : List Field) → fields_of true layout ≡ ok fs → length layout ≤ max_layout → least_length fs ≤ layout_reach
  within fs e h =
      let few : length fs ≤ max_layout = omega (arith, fields-few true layout fs e) in
      let all : (passed origin fs).end ≤ 0 + length fs * field_reach = passed-near fs origin (packed-reads layout fs e).1 (counts-limited true layout fs e) (omega arith) in
      let most : length fs * field_reach ≤ layout_reach = omega arith in
      omega (arith, passed_length fs)

  bounded : (described layout).number ≡ 0 → (described layout).second ≤ layout_reach
  unfolding described
  bounded = by (leb (length layout) max_layout) refl
    where
      named : length layout ≤ max_layout → (r : Result (List Field)) → fields_of true layout ≡ r
          → (answer_of (r >>= (λ fs. ok (accepted (slot_count fs) (least_length fs))))).number ≡ 0 → (answer_of (r >>= (λ fs. ok (accepted (slot_count fs) (least_length fs))))).second ≤ layout_reach
      named h (ok fs) e z = within fs e h
      named h (refused why place) e z = no-number-zero why z

      by : (t : Bool) → leb (length layout) max_layout ≡ t → (answer_of (demand t BadSize 0 >>= (λ _. fields_of true layout >>= (λ fs. ok (accepted (slot_count fs) (least_length fs)))))).number ≡ 0
          → (answer_of (demand t BadSize 0 >>= (λ _. fields_of true layout >>= (λ fs. ok (accepted (slot_count fs) (least_length fs)))))).second ≤ layout_reach
      by true h z = named (leb-true (length layout) max_layout h) (fields_of true layout) refl z
      by false h z = no-number-zero BadSize z

  pub describes : Describes layout (described layout)
  describes = record {
    accepts = accepts;
    slots = slots;
    shortest = shortest;
    emptied = emptied;
    fixed = λ p gs e h. emptied p gs e (starless-empty gs h (slots_of p.slots));
    bounded = bounded;
  }
