-- What the fields of a layout have in common with those of its plan: each is good, so that its code stands for it, and
-- a layout that is good for reading is refused by packing where its plan is, with 4.
use Rattle.std.specs.declared.option.Option.{Option}
use Rattle.std.specs.declared.option.Option.TheVariants.{Some, None}
use Rattle.std.specs.Prelude.{if◌then◌else◌}
use Prim.Native.Nat.{ℕ, zero, suc, ◌+◌, ◌/◌, ◌%◌, ◌≤◌, ◌<◌}
use native.Mathlib.Omega.{arith}
use mathlib.Core.Path.{◌≡◌, refl, sym, ap, ◌∙◌, subst}
use mathlib.Core.Bool.{Bool, true, false, ◌&&◌, true≢false}
use mathlib.Core.List.{List, [], ◌∷◌}
use lib.Dec.{eqb}
use lib.ListN.{drop}
use Rattle.layout.specs.declared.Role.{Role}
use Rattle.layout.specs.declared.Count.{Count}
use Rattle.layout.specs.declared.Count.TheVariants.{Absent, Star, Times}
use Rattle.layout.specs.declared.Field.{Field}
use Rattle.layout.specs.declared.Refusal.TheVariants.{BadType, BadCount, BadMove}
use Rattle.layout.specs.Refusals.{Result, ok, refused, ◌>>=◌, demand}
use Rattle.layout.specs.Layout.{type_of, flagged, count_of, count_length, to_nat, in_limit, has_meaning, Step, space, field, bad, step_from, field_after, field_at, step_of, step_extra, step_then, fields_from, fields_of}
use Rattle.layout.specs.Codes.{flag_unit, count_unit, type_numbered, type_number, count_from, count_number, field_of, code_of, code_for}
use Rattle.layout.proofs.Laws.{bound, no-refusal, ok-inj}
use Rattle.layout.proofs.Steps.{bit_le, code-field}
use Rattle.plans.specs.Plans.{is_type, planned_field, planned_from, plan_of}
use Rattle.plans.proofs.Fields.{planned-meaning, planned-good, good-code}

-- ---- the types of the letters

pub record Lettered (k : Role) : Type 0 where
  pub type : is_type (type_number k) ≡ true
  pub back : type_numbered (type_number k) ≡ Some k
  pub small : type_number k < 256

abbrev LetteredType : Option Role → Type 0
LetteredType (Some k) = Lettered k
LetteredType None = Unit {0}

either : (t : Bool) (k : Role) (rest : Option Role) → Lettered k → LetteredType rest → LetteredType (if t then Some k else rest)
either true k rest h g = h
either false k rest h g = g

lettered : (c : ℕ) → LetteredType (type_of c)
unfolding type_of type_numbered
lettered c =
    either (eqb c 97) _ _ (record { type = refl; back = refl; small = omega arith })
    (either (eqb c 65) _ _ (record { type = refl; back = refl; small = omega arith })
    (either (eqb c 98) _ _ (record { type = refl; back = refl; small = omega arith })
    (either (eqb c 66) _ _ (record { type = refl; back = refl; small = omega arith })
    (either (eqb c 104) _ _ (record { type = refl; back = refl; small = omega arith })
    (either (eqb c 72) _ _ (record { type = refl; back = refl; small = omega arith })
    (either (eqb c 99) _ _ (record { type = refl; back = refl; small = omega arith })
    (either (eqb c 115) _ _ (record { type = refl; back = refl; small = omega arith })
    (either (eqb c 83) _ _ (record { type = refl; back = refl; small = omega arith })
    (either (eqb c 105) _ _ (record { type = refl; back = refl; small = omega arith })
    (either (eqb c 73) _ _ (record { type = refl; back = refl; small = omega arith })
    (either (eqb c 119) _ _ (record { type = refl; back = refl; small = omega arith })
    (either (eqb c 87) _ _ (record { type = refl; back = refl; small = omega arith })
    (either (eqb c 114) _ _ (record { type = refl; back = refl; small = omega arith })
    (either (eqb c 82) _ _ (record { type = refl; back = refl; small = omega arith })
    (either (eqb c 113) _ _ (record { type = refl; back = refl; small = omega arith })
    (either (eqb c 81) _ _ (record { type = refl; back = refl; small = omega arith })
    (either (eqb c 120) _ _ (record { type = refl; back = refl; small = omega arith })
    (either (eqb c 88) _ _ (record { type = refl; back = refl; small = omega arith })
    (either (eqb c 64) _ _ (record { type = refl; back = refl; small = omega arith }) tt)))))))))))))))))))

-- ---- a field that a layout can have, and its code

pub record Good (f : Field) : Type 0 where
  pub letter : Lettered f.role
  pub limit : in_limit f.count ≡ true
  pub means : has_meaning false f.role f.count ≡ true

abbrev pub AllGood : List Field → Type 0
AllGood [] = Unit {0}
AllGood (f ∷ fs) = Good f × AllGood fs

count-there : (n : Count) → count_from (count_number n) ≡ n
count-there Absent = refl
count-there Star = refl
count-there (Times n) = refl

module _ (f : Field) (g : Good f) where
  low : code_for f % flag_unit ≡ type_number f.role
  unfolding code_for
  low =
      let d : ℕ = type_number f.role in
      let small : d < 256 = g.letter.small in
      let e : code_of d f.unsigned (count_number f.count) % flag_unit ≡ d = omega arith in
      e

  high : count_from (code_for f / count_unit) ≡ f.count
  unfolding code_for
  high =
      let d : ℕ = type_number f.role in
      let n : ℕ = count_number f.count in
      let small : d < 256 = g.letter.small in
      let bit : to_nat f.unsigned ≤ 1 = bit_le f.unsigned in
      let e : code_of d f.unsigned n / count_unit ≡ n = omega arith in
      ap count_from e ∙ count-there f.count

  field_back : field_of (code_for f) ≡ f
  unfolding code_for
  field_back =
      code-field (type_number f.role) f.unsigned (count_number f.count) g.letter.small ∙ (rw (g.letter.back, count-there f.count))

  module _ (packing : Bool) (i : ℕ) where
    type : is_type (code_for f % flag_unit) ≡ true
    type = rw low g.letter.type

    limit : in_limit (count_from (code_for f / count_unit)) ≡ true
    limit = rw high g.limit

    pub code-good : has_meaning packing f.role f.count ≡ true → planned_field packing i (code_for f) ≡ ok f
    code-good h = planned-good packing i (code_for f) type limit (rw (low, g.letter.back, high) h) ∙ ap ok field_back

    pub code-misused : has_meaning packing f.role f.count ≡ false → planned_field packing i (code_for f) ≡ refused BadMove i
    code-misused h = planned-meaning packing i (code_for f) type limit (rw (low, g.letter.back, high) h)

-- ---- the fields of a plan

-- fields that are good for packing, or that packing refuses with 4
abbrev pub meant : List Field → Bool
meant [] = true
meant (f ∷ fs) = has_meaning true f.role f.count && meant fs

abbrev pub Judged : Bool → List Field → Result (List Field) → Type 0
Judged true fs o = o ≡ ok fs
Judged false fs o = (place : ℕ) × (o ≡ refused BadMove place)

joined : (m b : Bool) (f : Field) (fs : List Field) (at : ℕ) (one : Result Field) (rest : Result (List Field)) → (m ≡ true → one ≡ ok f) → (m ≡ false → one ≡ refused BadMove at)
    → Judged b fs rest → Judged (m && b) (f ∷ fs) (one >>= (λ f. rest >>= (λ fs. ok (f ∷ fs))))
joined true true f fs at one rest good misused h = rw (good refl, h)
joined true false f fs at one rest good misused (place, h) = (place, rw (good refl, h))
joined false b f fs at one rest good misused h = (at, rw (misused refl))

pub plan-packs : (fs : List Field) → AllGood fs → (i : ℕ) → Judged (meant fs) fs (planned_from true i (plan_of fs))
unfolding planned_from
plan-packs [] g i = refl
plan-packs (f ∷ fs) g i =
    joined (has_meaning true f.role f.count) (meant fs) f fs i (planned_field true i (code_for f)) (planned_from true (suc i) (plan_of fs))
    (code-good f g.0 true i) (code-misused f g.0 true i) (plan-packs fs g.1 (suc i))

pub plan-reads : (fs : List Field) → AllGood fs → (i : ℕ) → planned_from false i (plan_of fs) ≡ ok fs
unfolding planned_from
plan-reads [] g i = refl
plan-reads (f ∷ fs) g i = rw (code-good f g.0 false i g.0.means, plan-reads fs g.1 (suc i))

-- ---- the fields of a layout: what stands at a place for reading, and for packing

abbrev Pair : ℕ → Step → Step → Type 0
Pair at s space = s ≡ space
Pair at s (field f n) = Good f × (has_meaning true f.role f.count ≡ true → s ≡ field f n) × (has_meaning true f.role f.count ≡ false → s ≡ bad BadMove at)
Pair at s (bad why place) = Unit {0}

abbrev ends : ℕ → ℕ → Bool → Bool → Field → ℕ → Step
ends at count l m f n = step_from (demand l BadCount count >>= (λ _. demand m BadMove at >>= (λ _. ok (f, n))))

pair_end : (at count : ℕ) (l packs reads : Bool) (f : Field) (n : ℕ) → Lettered f.role → in_limit f.count ≡ l → has_meaning true f.role f.count ≡ packs
    → has_meaning false f.role f.count ≡ reads → Pair at (ends at count l packs f n) (ends at count l reads f n)
pair_end at count false packs reads f n k a b c = tt
pair_end at count true packs false f n k a b c = tt
pair_end at count true true true f n k a b c =
    (record { letter = k; limit = a; means = c }, (λ e. refl), (λ e. absurd (true≢false (sym b ∙ e))))
pair_end at count true false true f n k a b c =
    (record { letter = k; limit = a; means = c }, (λ e. absurd (true≢false (sym e ∙ b))), (λ e. refl))

pair_typed : (at : ℕ) (cs : List ℕ) (t : Option Role) → LetteredType t
    → Pair at (step_from (elim t [ Some k ↦ field_after true at k cs | None ↦ refused BadType at ]))
    (step_from (elim t [ Some k ↦ field_after false at k cs | None ↦ refused BadType at ]))
unfolding field_after
pair_typed at cs (Some k) h =
    let u = flagged cs in
    let rest = drop (to_nat u) cs in
    let n = count_of rest in
    pair_end at (suc at + to_nat u) (in_limit n) (has_meaning true k n) (has_meaning false k n) (record { role = k; unsigned = u; count = n }) (to_nat u + count_length rest) h refl refl refl
pair_typed at cs None h = tt

pair-space : (at : ℕ) (t : Bool) (a b : Step) → Pair at a b → Pair at (if t then space else a) (if t then space else b)
pair-space at true a b h = refl
pair-space at false a b h = h

pair : (at c : ℕ) (cs : List ℕ) → Pair at (step_of true at c cs) (step_of false at c cs)
unfolding step_of field_at
pair at c cs = pair-space at (eqb c 32) _ _ (pair_typed at cs (type_of c) (lettered c))

-- what holds of the fields that reading finds, and of what packing finds in the same text
abbrev Found : List Field → Result (List Field) → Type 0
Found fs o = AllGood fs × Judged (meant fs) fs o

text-joined : (m b : Bool) (f : Field) (fs : List Field) (place n at : ℕ) (s : Step) (cs : List ℕ) → (m ≡ true → s ≡ field f n) → (m ≡ false → s ≡ bad BadMove place)
    → Judged b fs (fields_from true at n cs) → Judged (m && b) (f ∷ fs) (step_then s (fields_from true at (step_extra s) cs))
text-joined true true f fs place n at s cs good misused h = rw (good refl, h)
text-joined true false f fs place n at s cs good misused (p, h) = (p, rw (good refl, h))
text-joined false b f fs place n at s cs good misused h = (place, rw (misused refl))

found-step : (place at : ℕ) (cs : List ℕ) → ((m : ℕ) (gs : List Field) → fields_from false at m cs ≡ ok gs → Found gs (fields_from true at m cs))
    → (s s' : Step) → Pair place s s' → (fs : List Field) → step_then s' (fields_from false at (step_extra s') cs) ≡ ok fs → Found fs (step_then s (fields_from true at (step_extra s) cs))
found-step place at cs ih s space p fs e = rw p (ih 0 fs e)
found-step place at cs ih s (field f n) p fs e =
    let (gs, e₁, e₂) = bound (fields_from false at n cs) (λ gs. ok (f ∷ gs)) fs e in
    let rest = ih n gs e₁ in
    subst (λ (l : List Field). Found l (step_then s (fields_from true at (step_extra s) cs))) (ok-inj e₂)
    ((p.0, rest.0), text-joined (has_meaning true f.role f.count) (meant gs) f gs place n at s cs p.1 p.2 rest.1)
found-step place at cs ih s (bad why q) p fs e = no-refusal e

found_from : (cs : List ℕ) (at n : ℕ) (fs : List Field) → fields_from false at n cs ≡ ok fs → Found fs (fields_from true at n cs)
unfolding fields_from
found_from [] at n fs e = subst (λ (l : List Field). Found l (ok [])) (ok-inj e) (tt, refl)
found_from (c ∷ cs) at (suc n) fs e = found_from cs (suc at) n fs e
found_from (c ∷ cs) at zero fs e =
    found-step at (suc at) cs (λ m gs k. found_from cs (suc at) m gs k) (step_of true at c cs) (step_of false at c cs) (pair at c cs) fs e

pub text-found : (text : List ℕ) (fs : List Field) → fields_of false text ≡ ok fs → Found fs (fields_of true text)
unfolding fields_of
text-found text fs e = found_from text 0 0 fs e

-- ---- a plan that is served is that of its fields

picked : (a b c : Bool) (i : ℕ) (x f : Field) → (demand a BadType i >>= (λ _. demand b BadCount i >>= (λ _. demand c BadMove i >>= (λ _. ok x)))) ≡ ok f → x ≡ f
picked true true true i x f e = ok-inj e
picked true true false i x f e = no-refusal e
picked true false c i x f e = no-refusal e
picked false b c i x f e = no-refusal e

field-of : (i w : ℕ) (f : Field) → planned_field false i w ≡ ok f → field_of w ≡ f
unfolding planned_field
field-of i w f e =
    picked (is_type (w % flag_unit)) (in_limit (count_from (w / count_unit))) (has_meaning false (field_of w).role (field_of w).count) i (field_of w) f e

pub plan-of : (plan : List ℕ) (i : ℕ) (fs : List Field) → planned_from false i plan ≡ ok fs → plan_of fs ≡ plan
unfolding planned_from
plan-of [] i fs e = subst (λ (l : List Field). plan_of l ≡ []) (ok-inj e) refl
plan-of (w ∷ ws) i fs e =
    let (f, one, e₁) = bound (planned_field false i w) (λ f. planned_from false (suc i) ws >>= (λ fs. ok (f ∷ fs))) fs e in
    let (gs, rest, e₂) = bound (planned_from false (suc i) ws) (λ fs. ok (f ∷ fs)) fs e₁ in
    let code : code_for f ≡ w = ap code_for (sym (field-of i w f one)) ∙ good-code false i w one in
    let here : plan_of (f ∷ gs) ≡ w ∷ ws = rw (code, plan-of ws (suc i) gs rest) in
    subst (λ (l : List Field). plan_of l ≡ w ∷ ws) (ok-inj e₂) here
