-- Laws of two packings one after the other: the first into room of the buffer's length, the second into the buffer
-- after the first result, which is then copied in front of it. M-113 of the two follows from the theorem.
use Prim.Native.Nat.{ℕ, ◌+◌, ◌-◌, ◌≤◌, ◌<◌}
use native.Mathlib.Omega.{arith}
use mathlib.Core.Path.{◌≡◌, refl, sym, ap, ap₂, ◌∙◌}
use mathlib.Core.Bool.{and-false}
use mathlib.Core.List.{List, [], ◌++◌, append-nil, append_assoc}
use lib.ListN.{length, take, drop, length-append, length-drop, drop_of_length-le, take-append-drop}
use borrow.Author.Tests.{lt-leb}
use lib.Seq.{take_all, take_at, drop_at, drop-drop, length-take-le}
use Rattle.layout.specs.declared.Field.{Field}
use Rattle.layout.specs.declared.Refusal.TheVariants.{BadSize}
use Rattle.layout.specs.Refusals.{Result, ok, refused, ◌>>=◌}
use Rattle.record.specs.declared.Answer.{Answer}
use Rattle.record.specs.Packing.{accepted, refusal, packs, Packed, pack_effect, pack}
use Rattle.record.specs.Table.{max_record}
use Rattle.record.proofs.Sizes.{Sized, sized}
use Rattle.joining.specs.Claim.{join_templates, pack_by, Part, result_of}
use Rattle.joining.specs.Calls.{Pair, packs_by, packs_both, Joinable, PacksBothAs}
use Rattle.runs.proofs.Calls.{Passed, packs-passed, result-is, same-room}
use Rattle.joining.proofs.Joining.{joins}

module _ (c : Pair) where
  -- the packing by the first template, whatever of the buffer's length it is lent; and by the second, after n bytes
  abbrev first : Result (List ℕ)
  first = packs_by c.first c.area c.output

  abbrev second : ℕ → Result (List ℕ)
  second n = packs_by c.second c.area (drop n c.output)

  -- ---- the promise

  -- what is accepted is what packing by the joined template gives
  joined-both : (bs cs : List ℕ) → first ≡ ok bs → second (length bs) ≡ ok cs → Joinable c
      → pack_effect c.output (ok (bs ++ cs)) ≡ pack_by (join_templates c.first c.second) c.area c.output
  unfolding pack
  joined-both bs cs e₁ e₂ j =
      let left : List ℕ = drop (length bs) c.output in
      let x : Part c.area = record { template = c.first; output = c.output; fields = j.first-fields; has-fields = j.first-has; goes-forward = j.first-forward; accepted = rw e₁ refl } in
      let y : Part c.area = record { template = c.second; output = left; fields = j.second-fields; has-fields = j.second-has; goes-forward = j.second-forward; accepted = rw e₂ refl } in
      let ra : result_of x ≡ bs = result-is c.output bs _ (ap (pack_effect c.output) e₁) in
      let rb : result_of y ≡ cs = result-is left cs _ (ap (pack_effect left) e₂) in
      let k = (packs-passed c.first.text c.first.slots c.area c.output bs e₁).1 in
      let m = (packs-passed c.second.text c.second.slots c.area left cs e₂).1 in
      let fits : length (result_of x ++ result_of y) ≤ length c.output =
      rw (ra, rb) (omega (arith, length-append bs cs, k.room, m.room, length-drop (length bs) c.output)) in
      ap₂ (λ (a b : List ℕ). pack_effect c.output (ok (a ++ b))) (sym ra) (sym rb) ∙ sym ((joins c.area).two x y c.output j.sizes fits)

  -- so an answer that is the effect has all of the promise
  pub promised : (p : Packed) → p ≡ pack_effect c.output (packs_both c) → PacksBothAs c p
  unfolding packs_both
  promised p e = record { effect = e; joined = λ j z. e ∙ by first refl (rw e at z) j }
    where
      then : (bs : List ℕ) → first ≡ ok bs → (r : Result (List ℕ)) → second (length bs) ≡ r → (pack_effect c.output (r >>= (λ cs. ok (bs ++ cs)))).answer.number ≡ 0 → Joinable c
          → pack_effect c.output (r >>= (λ cs. ok (bs ++ cs))) ≡ pack_by (join_templates c.first c.second) c.area c.output
      then bs e₁ (ok cs) e₂ z j = joined-both bs cs e₁ e₂ j
      then bs e₁ (refused why place) e₂ z j = absurd (omega arith)

      by : (r : Result (List ℕ)) → first ≡ r
          → (pack_effect c.output (r >>= (λ bs. second (length bs) >>= (λ cs. ok (bs ++ cs))))).answer.number ≡ 0 → Joinable c
          → pack_effect c.output (r >>= (λ bs. second (length bs) >>= (λ cs. ok (bs ++ cs)))) ≡ pack_by (join_templates c.first c.second) c.area c.output
      by (ok bs) e₁ z j = then bs e₁ (second (length bs)) refl z j
      by (refused why place) e₁ z j = absurd (omega arith)

-- ---- a packing that was accepted

pub record Made (r : Result (List ℕ)) (lent : List ℕ) (x : Answer) (left : List ℕ) : Type 0 where
  pub bytes : List ℕ
  pub result : r ≡ ok bytes
  pub count : x.first ≡ length bytes
  pub stored : left ≡ bytes ++ drop (length bytes) lent

made : (r : Result (List ℕ)) (lent : List ℕ) (x : Answer) (left : List ℕ) → record { answer = x; output = left } ≡ pack_effect lent r → x.number ≡ 0 → Made r lent x left
made (ok bs) lent x left e z = record { bytes = bs; result = refl; count = ap (λ (p : Packed). p.answer.first) e; stored = ap (λ (p : Packed). p.output) e }
made (refused why place) lent x left e z = absurd (let n : x.number ≡ (refusal why place).number = ap (λ (p : Packed). p.answer.number) e in omega arith)

-- ---- where the calls return

module _ (c : Pair) (room : List ℕ) (same : length room ≡ length c.output) (x : Answer) (left : List ℕ)
    (called : record { answer = x; output = left } ≡ pack c.first.text c.first.slots c.area room) where
  abbrev n : ℕ
  n = x.first

  abbrev o : List ℕ
  o = c.output

  first-call : record { answer = x; output = left } ≡ pack_effect room (first c)
  unfolding pack
  first-call = called ∙ ap (pack_effect room) (same-room c.first.text c.first.slots c.area room o same)

  pub first-refused : (x.number ≡ 0 → ⊥) → PacksBothAs c (record { answer = x; output = o })
  unfolding packs_both
  first-refused h = promised c _ (by (first c) first-call)
    where
      by : (r : Result (List ℕ)) → record { answer = x; output = left } ≡ pack_effect room r
          → record { answer = x; output = o } ≡ pack_effect o (r >>= (λ bs. second c (length bs) >>= (λ cs. ok (bs ++ cs))))
      by (ok bs) e = absurd (h (ap (λ (p : Packed). p.answer.number) e))
      by (refused why place) e = ap (λ (p : Packed). record { answer = p.answer; output = o }) e

  module _ (zero : x.number ≡ 0) where
    one : Made (first c) room x left
    one = made (first c) room x left first-call zero

    passed : (fs : List Field) × Passed c.first.text c.first.slots c.area o fs one.bytes
    passed = packs-passed c.first.text c.first.slots c.area o one.bytes one.result

    pub first_fits : n ≤ length o
    first_fits = omega (arith, one.count, passed.1.room)

    pub left-holds : n ≤ length left
    left-holds = rw (one.stored, length-append) (omega (arith, one.count))

    module _ (y : Answer) (out : List ℕ) (called' : record { answer = y; output = out } ≡ pack c.second.text c.second.slots c.area (take (length o - n) (drop n o))) where
      -- the buffer, once the part that was lent is put back
      abbrev last : List ℕ
      last = take n o ++ (out ++ drop (length o - n) (drop n o))

      second_call : record { answer = y; output = out } ≡ pack_effect (drop n o) (second c n)
      unfolding pack
      second_call = called' ∙ ap (λ (r : List ℕ). pack_effect r (packs_by c.second c.area r)) (take_all (length o - n) (drop n o) (omega (arith, length-drop n o)))

      put_back : last ≡ take n o ++ out
      put_back =
          let none : drop (length o - n) (drop n o) ≡ [] = drop_of_length-le (drop n o) {i = length o - n} (omega (arith, length-drop n o)) in
          rw (none, append-nil)

      both_is : (r : Result (List ℕ)) → second c n ≡ r → packs_both c ≡ (r >>= (λ cs. ok (one.bytes ++ cs)))
      unfolding packs_both
      both_is r e = rw (one.result, ← one.count, e)

      pub second-refused : (y.number ≡ 0 → ⊥) → PacksBothAs c (record { answer = y; output = last })
      second-refused h = promised c _ (by (second c n) refl second_call)
        where
          by : (r : Result (List ℕ)) → second c n ≡ r → record { answer = y; output = out } ≡ pack_effect (drop n o) r
              → record { answer = y; output = last } ≡ pack_effect o (packs_both c)
          by (ok cs) k e = absurd (h (ap (λ (p : Packed). p.answer.number) e))
          by (refused why place) k e =
              let back : last ≡ o = put_back ∙ ap (λ (r : List ℕ). take n o ++ r) (ap (λ (p : Packed). p.output) e) ∙ take-append-drop n o in
              ap₂ (λ (a : Answer) (b : List ℕ). record { answer = a; output = b }) (ap (λ (p : Packed). p.answer) e) back ∙ ap (pack_effect o) (sym (both_is (refused why place) k))

      module _ (h : y.number ≡ 0) where
        two : Made (second c n) (drop n o) y out
        two = made (second c n) (drop n o) y out second_call h

        passed-two : (fs : List Field) × Passed c.second.text c.second.slots c.area (drop n o) fs two.bytes
        passed-two = packs-passed c.second.text c.second.slots c.area (drop n o) two.bytes two.result

        pub sum-small : n + y.first ≤ max_record
        sum-small =
            let limits : Sized (length c.first.text) (length c.first.slots) (length o) (length c.area) = sized passed.1.sizes in
            omega (arith, first_fits, two.count, passed-two.1.room, length-drop n o, limits.whole)

        pub last-holds : n ≤ length last
        last-holds = rw (put_back, length-append) (omega (arith, length-take-le n o first_fits))

        pub both-packed : (z : Answer) → z ≡ accepted (n + y.first) 0 → (head : List ℕ) → head ≡ take n left → PacksBothAs c (record { answer = z; output = head ++ drop n last })
        both-packed z e head copied =
            let bs : List ℕ = one.bytes in
            let cs : List ℕ = two.bytes in
            let front : take n left ≡ bs = ap (take n) one.stored ∙ take_at bs (drop (length bs) room) n (sym one.count) in
            let behind : drop n last ≡ out = ap (drop n) put_back ∙ drop_at (take n o) out n (length-take-le n o first_fits) in
            let total : n + y.first ≡ length (bs ++ cs) = rw length-append (omega (arith, one.count, two.count)) in
            let end_of : n + length cs ≡ length (bs ++ cs) = omega (arith, total, two.count) in
            let rest : drop (length cs) (drop n o) ≡ drop (length (bs ++ cs)) o = drop-drop (length cs) n o ∙ ap (λ (i : ℕ). drop i o) end_of in
            let joined : bs ++ out ≡ bs ++ cs ++ drop (length (bs ++ cs)) o =
            ap (λ (r : List ℕ). bs ++ r) (two.stored ∙ ap (λ (r : List ℕ). cs ++ r) rest) ∙ sym (append_assoc bs cs (drop (length (bs ++ cs)) o)) in
            let put : head ++ drop n last ≡ bs ++ out = rw (copied, front, behind) in
            promised c _ (ap₂ (λ (a : Answer) (b : List ℕ). record { answer = a; output = b }) (e
            ∙ ap (λ (i : ℕ). accepted i 0) total) (put ∙ joined)
            ∙ ap (pack_effect o) (sym (both_is (ok cs) two.result)))

-- a buffer larger than a record may be
pub too_large : (c : Pair) (x : Answer) → x ≡ refusal BadSize 0 → max_record < length c.output → PacksBothAs c (record { answer = x; output = c.output })
unfolding packs_both packs
too_large c x e h = promised c _ (ap (λ (a : Answer). record { answer = a; output = c.output }) e ∙ ap (pack_effect c.output) large)
  where
    large : refused BadSize 0 ≡ packs_both c
    large = rw (lt-leb (length c.output) max_record h, and-false)
