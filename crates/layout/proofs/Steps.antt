-- One step of the layout reader, on plain values: a count, a flag, a code, and the field at a type character. Each law
-- rewrites a definition by what the code has tested.
use mir.Val.{bool_byte}
use Rattle.std.specs.declared.option.Option.{Option}
use Rattle.std.specs.declared.option.Option.TheVariants.{Some, None}
use Rattle.std.specs.Prelude.{if◌then◌else◌}
use Prim.Native.Nat.{ℕ, zero, suc, ◌+◌, ◌-◌, ◌*◌, ◌/◌, ◌%◌, ◌^◌, ◌≤◌, ◌<◌, min}
use native.Mathlib.Nat.{add-zero, suc-ne-zero}
use native.Mathlib.Numerals.{add-one}
use native.Mathlib.Omega.{arith}
use mathlib.Core.Path.{◌≡◌, refl, sym, ap, ◌∙◌}
use mathlib.Core.Bool.{Bool, true, false, not, and-false}
use mathlib.Core.List.{List, [], ◌∷◌}
use borrow.Author.Tests.{eq-eqb, ne_eqb, le-leb, lt-leb}
use lib.Dec.{eqb, leb, ltb}
use lib.ListN.{length, get_or, drop, drop_of_length-le, length-drop}
use lib.Seq.{drop-cons, drop-drop}
use Rattle.layout.specs.declared.Role.{Role}
use Rattle.layout.specs.declared.Role.TheVariants.{Move}
use Rattle.layout.specs.declared.Motion.TheVariants.{Skip, Goto}
use Rattle.layout.specs.declared.Count.{Count}
use Rattle.layout.specs.declared.Count.TheVariants.{Absent, Star, Times}
use Rattle.layout.specs.declared.Field.{Field}
use Rattle.layout.specs.declared.Refusal.TheVariants.{BadType, BadCount, BadMove}
use Rattle.std.specs.declared.result.Result.TheVariants.{Ok, Err}
use Rattle.layout.specs.Refusals.{refused}
use Rattle.layout.specs.Layout.{max_count, is_decimal, digit_run, decimal, type_of, flagged, count_of, count_length, in_limit, has_meaning, to_nat, takes_slot, field, bad, field_after, field_at, step_of}
use Rattle.layout.proofs.Encoded.{number-back, count-back}
use Rattle.layout.proofs.Laws.{FitType, fit-either, decimal-held}
use Rattle.layout.specs.Codes.{last_text, last_digits, last_integers, last_data, skip_number, back_number, goto_number, last_type, type_numbered, count_from, known, field_of, code_of, code_for, flag_unit, count_unit}
use Rattle.layout.specs.inside.Parsing.{HasType, over_count, held_number, NumberAt, CountAt, TailAt, FitRole, FitCount, FieldOf, FoundAs}

-- ---- a decimal number from the place i on

module _ (s : List ℕ) (i v : ℕ) where
  pub decimal-on : i < length s → is_decimal (get_or s i 0) ≡ true → decimal v (drop i s) ≡ decimal (10 * v + (get_or s i 0 - 48)) (drop (suc i) s)
  unfolding decimal
  decimal-on h e = rw (drop-cons s i 0, e)

  pub decimal-stop : i < length s → is_decimal (get_or s i 0) ≡ false → decimal v (drop i s) ≡ v
  unfolding decimal
  decimal-stop h e = rw (drop-cons s i 0, e)

  pub decimal-end : length s ≤ i → decimal v (drop i s) ≡ v
  unfolding decimal
  decimal-end h = rw (drop_of_length-le s h)

  -- with one digit more the number, held, is the same
  pub held_on : i < length s → is_decimal (get_or s i 0) ≡ true
      → min over_count (decimal (min over_count (10 * v + (get_or s i 0 - 48))) (drop (suc i) s)) ≡ min over_count (decimal v (drop i s))
  held_on h e =
      sym (decimal-held over_count (10 * v + (get_or s i 0 - 48)) (drop (suc i) s)) ∙ ap (min over_count) (sym (decimal-on h e))

pub is-decimal : (c : ℕ) → 48 ≤ c → c ≤ 57 → is_decimal c ≡ true
is-decimal c h k = rw (le-leb 48 c h, le-leb c 57 k)

pub below-decimal : (c : ℕ) → c < 48 → is_decimal c ≡ false
below-decimal c h = rw (lt-leb 48 c h)

pub above-decimal : (c : ℕ) → 57 < c → is_decimal c ≡ false
above-decimal c h = rw (lt-leb c 57 h, and-false)

-- ---- the count at a place

module _ (s : List ℕ) (at : ℕ) where
  pub count-end : length s ≤ at → CountAt s at 0 at
  unfolding count_of count_length
  count-end h = rw (drop_of_length-le s h) (refl, sym (add-zero at))

  module _ (h : at < length s) where
    pub count-star : get_or s at 0 ≡ 42 → CountAt s at 1 (at + 1)
    unfolding count_of count_length
    count-star e = rw (drop-cons s at 0 h, eq-eqb (get_or s at 0) 42 e) (refl, refl)

    module _ (no-star : get_or s at 0 ≡ 42 → ⊥) where
      pub count_none : is_decimal (get_or s at 0) ≡ false → CountAt s at 0 at
      unfolding count_of count_length digit_run
      count_none e = rw (drop-cons s at 0 h, ne_eqb (get_or s at 0) 42 no-star, e) (refl, sym (add-zero at))

      pub count-number : is_decimal (get_or s at 0) ≡ true → (v e : ℕ) → NumberAt s at v e → CountAt s at (v + 2) e
      unfolding count_of count_length
      count-number d v e (p, q) =
          let n : suc (suc (min over_count (decimal 0 (drop at s)))) ≡ v + 2 = omega arith in
          (sym n ∙ (rw (drop-cons s at 0 h, ne_eqb (get_or s at 0) 42 no-star, d)), q ∙ (rw (drop-cons s at 0 h, ne_eqb (get_or s at 0) 42 no-star)))

-- ---- the flag at a place

module _ (s : List ℕ) (at : ℕ) where
  pub flag-end : length s ≤ at → false ≡ flagged (drop at s)
  unfolding flagged
  flag-end h = rw (drop_of_length-le s h)

  pub flag-byte : at < length s → eqb (get_or s at 0) 117 ≡ flagged (drop at s)
  unfolding flagged
  flag-byte h = rw (drop-cons s at 0 h)

-- a flag as a number
pub flag-bit : (t : Bool) → bool_byte t ≡ to_nat t
flag-bit true = refl
flag-bit false = refl

-- ---- the number of a count

pub times-from : (n : ℕ) → (n ≡ 0 → ⊥) → (n ≡ 1 → ⊥) → Times (n - 2) ≡ count_from n
times-from zero h k = absurd (h refl)
times-from (suc zero) h k = absurd (k refl)
times-from (suc (suc n)) h k = let e : suc (suc n) - 2 ≡ n = omega arith in ap Times e

pub skip-meaning : (packing : Bool) (n : ℕ) → (n ≡ 1 → ⊥) → true ≡ has_meaning packing (Move Skip) (count_from n)
skip-meaning packing zero h = refl
skip-meaning packing (suc zero) h = absurd (h refl)
skip-meaning packing (suc (suc n)) h = refl

pub goto-meaning : (packing : Bool) (n : ℕ) → not (eqb n 0) ≡ has_meaning packing (Move Goto) (count_from n)
goto-meaning packing zero = refl
goto-meaning packing (suc zero) = refl
goto-meaning packing (suc (suc n)) = ap not (ne_eqb (suc (suc n)) 0 (suc-ne-zero _))

-- the number of the largest count
abbrev last_count : ℕ
last_count = suc over_count

pub held-over : (n : Count) → last_count < held_number n → in_limit n ≡ false
held-over Absent h = absurd (omega arith)
held-over Star h = absurd (omega arith)
held-over (Times n) h = lt-leb n max_count (omega arith)

pub held-within : (n : Count) → held_number n ≤ last_count → (in_limit n ≡ true) × (count_from (held_number n) ≡ n)
held-within Absent h = (refl, refl)
held-within Star h = (refl, refl)
held-within (Times n) h = let e : min over_count n ≡ n = omega arith in (le-leb n max_count (omega arith), ap Times e)

-- ---- a code and its field

bit-of : (u : Bool) → eqb (to_nat u) 1 ≡ u
bit-of true = refl
bit-of false = refl

pub bit_le : (u : Bool) → to_nat u ≤ 1
bit_le true = omega arith
bit_le false = omega arith

pub code-field : (c : ℕ) (u : Bool) (n : ℕ) → c < 256 → field_of (code_of c u n) ≡ record { role = known (type_numbered c); unsigned = u; count = count_from n }
unfolding field_of
code-field c u n h =
    let small : to_nat u ≤ 1 = bit_le u in
    let low : code_of c u n % flag_unit ≡ c = omega arith in
    let upper : code_of c u n / flag_unit ≡ to_nat u + 2 * n = omega arith in
    let flag : (to_nat u + 2 * n) % 2 ≡ to_nat u = omega arith in
    let high : code_of c u n / count_unit ≡ n = omega arith in
    rw (low, upper, flag, high, bit-of u)

-- a field's code comes back from the field
pub code-back : (d : ℕ) (u : Bool) (n : ℕ) → d ≤ last_type → HasType d → code_for (field_of (code_of d u n)) ≡ code_of d u n
unfolding code_for
code-back d u n l h =
    let small : d < 256 = omega arith in
    rw (code-field d u n small, number-back d l h, count-back n)

width_fits : (a b c : Bool) → (0 < (if a then 1 else if b then 2 else if c then 4 else 8)) × ((if a then 1 else if b then 2 else if c then 4 else 8) ≤ 8)
width_fits true b c = (omega arith, omega arith)
width_fits false true c = (omega arith, omega arith)
width_fits false false true = (omega arith, omega arith)
width_fits false false false = (omega arith, omega arith)

pub type-fits : (k : ℕ) → FitType (type_numbered k)
unfolding type_numbered
type-fits k =
    fit-either (leb k last_text) _ _ tt
    (fit-either (leb k last_digits) _ _ tt
    (fit-either (leb k last_integers) _ _ (width_fits (ltb k 8) (ltb k 10) (ltb k 12))
    (fit-either (leb k last_data) _ _ tt
    (fit-either (eqb k skip_number) _ _ tt
    (fit-either (eqb k back_number) _ _ tt
    (fit-either (eqb k goto_number) _ _ tt tt))))))

pub known-fits : (t : Option Role) → FitType t → FitRole (known t)
known-fits (Some k) h = h
known-fits None h = tt

count_fits : (n : ℕ) → n < 2 ^ 23 → FitCount (count_from n)
count_fits zero h = tt
count_fits (suc zero) h = tt
count_fits (suc (suc n)) h = omega arith

pub field_fits : (w : ℕ) (f : Field) → w < 2 ^ 32 → f ≡ field_of w → FieldOf w f
unfolding field_of
field_fits w f h e =
    record { same = e; role = rw e (known-fits (type_numbered (w % flag_unit)) (type-fits (w % flag_unit))); count = rw e (count_fits (w / count_unit) (omega arith)) }

-- ---- the field at a type character

module _ (packing : Bool) (p c : ℕ) (cs : List ℕ) (no-space : c ≡ 32 → ⊥) where
  at-unknown : type_of c ≡ None → field_at packing p c cs ≡ refused BadType p
  unfolding field_at
  at-unknown e = rw (e, field_at)

  at-known : (k : Role) → type_of c ≡ Some k → field_at packing p c cs ≡ field_after packing p k cs
  unfolding field_at
  at-known k e = rw (e, field_at)

  pub step-unknown : type_of c ≡ None → step_of packing p c cs ≡ bad BadType p
  unfolding step_of
  step-unknown e = rw (ne_eqb c 32 no-space, at-unknown e)

  module _ (k : Role) (e : type_of c ≡ Some k) (u : Bool) (flag : u ≡ flagged cs) (v : ℕ) (held : v ≡ held_number (count_of (drop (to_nat u) cs))) where
    pub step-large : last_count < v → step_of packing p c cs ≡ bad BadCount (suc p + to_nat u)
    unfolding step_of field_after
    step-large h =
        let n : Count = count_of (drop (to_nat u) cs) in
        let over : in_limit n ≡ false = held-over n (omega arith) in
        rw (ne_eqb c 32 no-space, at-known k e, ← flag, over)

    module _ (within : v ≤ last_count) where
      pub step-meaningless : has_meaning packing k (count_from v) ≡ false → step_of packing p c cs ≡ bad BadMove p
      unfolding step_of field_after
      step-meaningless m =
          let n : Count = count_of (drop (to_nat u) cs) in
          let w : (in_limit n ≡ true) × (count_from (held_number n) ≡ n) = held-within n (omega arith) in
          let same : count_from v ≡ n = ap count_from held ∙ w.1 in
          rw (ne_eqb c 32 no-space, at-known k e, ← flag, w.0, ← same, m)

      pub step_field : (d : ℕ) → d < 256 → type_numbered d ≡ Some k → has_meaning packing k (count_from v) ≡ true
          → step_of packing p c cs ≡ field (field_of (code_of d u v)) (to_nat u + count_length (drop (to_nat u) cs))
      unfolding step_of field_after
      step_field d h type m =
          let n : Count = count_of (drop (to_nat u) cs) in
          let w : (in_limit n ≡ true) × (count_from (held_number n) ≡ n) = held-within n (omega arith) in
          let same : count_from v ≡ n = ap count_from held ∙ w.1 in
          rw (ne_eqb c 32 no-space, at-known k e, ← flag, w.0, ← same, m, code-field d u v h, type)

-- ---- a field lies inside the text

run-within : (cs : List ℕ) → digit_run cs ≤ length cs
unfolding digit_run
run-within [] = omega arith
run-within (c ∷ cs) = step (is_decimal c) (run-within cs)
  where
    step : (t : Bool) → digit_run cs ≤ length cs → (if t then suc (digit_run cs) else 0) ≤ suc (length cs)
    step true h = omega arith
    step false h = omega arith

pub count-within : (cs : List ℕ) → count_length cs ≤ length cs
unfolding count_length
count-within [] = omega arith
count-within (c ∷ cs) = step (eqb c 42) (run-within (c ∷ cs))
  where
    step : (t : Bool) → digit_run (c ∷ cs) ≤ length (c ∷ cs) → (if t then 1 else digit_run (c ∷ cs)) ≤ length (c ∷ cs)
    step true h = omega arith
    step false h = h

pub flag-within : (cs : List ℕ) → to_nat (flagged cs) ≤ length cs
unfolding flagged
flag-within [] = omega arith
flag-within (c ∷ cs) = omega (arith, bit_le (eqb c 117))

-- ---- what `read_field` has seen when the count is read: the type's number d, the flag b as a number, the count's
-- number v, and the place e after it

pub record Seen (text : List ℕ) (p d b v e : ℕ) : Type 0 where
  pub start : p < length text
  pub low : d ≤ last_type
  pub no-space : get_or text p 0 ≡ 32 → ⊥
  pub type : type_of (get_or text p 0) ≡ type_numbered d
  pub named : HasType d
  pub tail : TailAt text (p + 1) b v e

pub seen : (text : List ℕ) (p d b v e : ℕ) → (p < length text) × (get_or text p 0 ≡ 32 → ⊥) → d ≤ last_type → (type_of (get_or text p 0) ≡ type_numbered d) × HasType d
    → TailAt text (p + 1) b v e → Seen text p d b v e
seen text p d b v e at low type tail = record { start = at.0; low = low; no-space = at.1; type = type.0; named = type.1; tail = tail }

pub found-unknown : (packing : Bool) (text : List ℕ) (p : ℕ) → (get_or text p 0 ≡ 32 → ⊥) → type_of (get_or text p 0) ≡ None → FoundAs packing text p (Err (record { why = BadType; place = p }))
found-unknown packing text p no-space e = record { step = step-unknown packing p _ _ no-space e; told = tt }

module _ (packing : Bool) (text : List ℕ) (p d b v e : ℕ) (s : Seen text p d b v e) where
  abbrev k : Role
  k = known (type_numbered d)

  abbrev u : Bool
  u = flagged (drop (suc p) text)

  numbered : type_numbered d ≡ Some k
  numbered = s.named s.low

  typed : type_of (get_or text p 0) ≡ Some k
  typed = s.type ∙ numbered

  bit : b ≡ to_nat u
  bit = rw add-one at s.tail.0

  pub flag-le : b ≤ 1
  flag-le = omega (arith, bit, bit_le u)

  place : p + 1 + b ≡ suc p + to_nat u
  place = omega (arith, bit)

  tail : drop (p + 1 + b) text ≡ drop (to_nat u) (drop (suc p) text)
  tail = ap (λ (i : ℕ). drop i text) place ∙ sym (drop-drop (to_nat u) (suc p) text)

  number : v ≡ held_number (count_of (drop (to_nat u) (drop (suc p) text)))
  number = s.tail.1.0 ∙ ap (λ (cs : List ℕ). held_number (count_of cs)) tail

  pub read-large : last_count < v → FoundAs packing text p (Err (record { why = BadCount; place = p + 1 + b }))
  read-large h =
      record { step = rw place (step-large packing p _ _ s.no-space k typed u refl v number h); told = tt }

  pub read-meaningless : v ≤ last_count → has_meaning packing k (count_from v) ≡ false → FoundAs packing text p (Err (record { why = BadMove; place = p }))
  read-meaningless h m =
      record { step = step-meaningless packing p _ _ s.no-space k typed u refl v number h m; told = tt }

  more : e - (p + 1) ≡ to_nat u + count_length (drop (to_nat u) (drop (suc p) text))
  more =
      let l : count_length (drop (p + 1 + b) text) ≡ count_length (drop (to_nat u) (drop (suc p) text)) = ap count_length tail in
      omega (arith, s.tail.1.1, bit)

  inside : e ≤ length text
  inside =
      let f : to_nat u ≤ length text - suc p = rw (← length-drop) (flag-within (drop (suc p) text)) in
      let l : count_length (drop (p + 1 + b) text) ≤ length text - (p + 1 + b) = rw (← length-drop) (count-within (drop (p + 1 + b) text)) in
      omega (arith, s.tail.1.1, bit, s.start)

  pub read-item : v ≤ last_count → has_meaning packing k (count_from v) ≡ true → (t : ℕ) → t ≡ to_nat (takes_slot k)
      → FoundAs packing text p (Ok (record { code = d + flag_unit * b + count_unit * v; more = e - (p + 1); slots = t }))
  read-item h m t slot =
      let w : d + flag_unit * b + count_unit * v ≡ code_of d u v = ap (λ (x : ℕ). d + flag_unit * x + count_unit * v) bit in
      let small : d < 256 = omega (arith, s.low) in
      record {
        step = rw (w, more) (step_field packing p _ _ s.no-space k typed u refl v number h d small numbered m);
        told = (slot ∙ (rw (w, code-field d u v small)), omega (arith, inside, s.start, s.tail.1.1), rw w (code-back d u v s.low s.named));
      }
