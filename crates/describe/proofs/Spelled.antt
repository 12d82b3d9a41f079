-- The text is made of its fields and of spaces: the flag and the count of a field stand in the bytes that it takes, so
-- that these bytes alone are that field, and what is between two fields was passed over as a space.
use Rattle.std.specs.declared.option.Option.{Option}
use Rattle.std.specs.declared.option.Option.TheVariants.{Some, None}
use Rattle.std.specs.Prelude.{if◌then◌else◌}
use Prim.Native.Nat.{ℕ, zero, suc, ◌+◌, ◌-◌, ◌*◌, ◌≤◌, ◌<◌}
use native.Mathlib.Nat.{add-zero, zero-add, add_comm, suc-add, sub_self, le_of_suc-le-suc, lt_of_not-le}
use native.Mathlib.Decide.{dec_le}
use native.Mathlib.Numerals.{add-one}
use native.Mathlib.Omega.{arith}
use mathlib.Core.Path.{◌≡◌, refl, sym, ap, ◌∙◌, subst}
use mathlib.Core.Bool.{Bool, true, false}
use mathlib.Core.List.{List, [], ◌∷◌}
use lib.Dec.{eqb}
use lib.ListN.{length, get_or, take, drop, length-drop, length-take, drop_of_length-le}
use lib.Seq.{take-nil, drop-cons}
use Rattle.layout.specs.declared.Role.{Role}
use Rattle.layout.specs.declared.Field.{Field}
use Rattle.layout.specs.declared.Refusal.TheVariants.{BadType, BadCount, BadMove}
use Rattle.layout.specs.Refusals.{Result, ok, refused, ◌>>=◌, demand}
use Rattle.layout.specs.Layout.{is_decimal, digit_run, decimal, type_of, flagged, count_of, count_length, in_limit, has_meaning, to_nat, Step, space, field, bad, step_from, field_after, field_at, step_of, step_extra, fields_from, fields_of}
use Rattle.layout.proofs.Laws.{no-refusal, bound, ok-inj}
use Rattle.describe.specs.Placed.{Placed, placed_before, placed_from, placed_fields}
use Rattle.describe.specs.inside.Texts.{tail_length}
use Rattle.describe.specs.Places.{Spaces, Stands, MadeOf, Places}
use Rattle.describe.proofs.Places.{forgotten, Reads, reads-step, tail_within}

-- ---- a flag and a count stand in the bytes that they take

-- digits: as many, and the same number
run-own : (cs : List ℕ) → digit_run (take (digit_run cs) cs) ≡ digit_run cs
unfolding digit_run
run-own [] = refl
run-own (c ∷ cs) = step (is_decimal c) refl (run-own cs)
  where
    step : (t : Bool) → is_decimal c ≡ t → digit_run (take (digit_run cs) cs) ≡ digit_run cs
        → digit_run (take (if t then suc (digit_run cs) else 0) (c ∷ cs)) ≡ (if t then suc (digit_run cs) else 0)
    step true e h = rw (e, h)
    step false e h = refl

decimal-own : (v : ℕ) (cs : List ℕ) → decimal v (take (digit_run cs) cs) ≡ decimal v cs
unfolding digit_run decimal
decimal-own v [] = refl
decimal-own v (c ∷ cs) = step (is_decimal c) refl (decimal-own (10 * v + (c - 48)) cs)
  where
    step : (t : Bool) → is_decimal c ≡ t
        → decimal (10 * v + (c - 48)) (take (digit_run cs) cs) ≡ decimal (10 * v + (c - 48)) cs
        → decimal v (take (if t then suc (digit_run cs) else 0) (c ∷ cs)) ≡ (if t then decimal (10 * v + (c - 48)) cs else v)
    step true e h = rw (e, h)
    step false e h = refl

abbrev OwnCount : List ℕ → ℕ → Type 0
OwnCount cs n = (count_of (take n cs) ≡ count_of cs) × (count_length (take n cs) ≡ n)

count-own : (cs : List ℕ) → OwnCount cs (count_length cs)
unfolding count_of count_length digit_run decimal
count-own [] = (refl, refl)
count-own (c ∷ cs) = star (eqb c 42) refl
  where
    digit : (t : Bool) → is_decimal c ≡ t → eqb c 42 ≡ false → OwnCount (c ∷ cs) (if t then suc (digit_run cs) else 0)
    digit true d e =
        let n : decimal (10 * 0 + (c - 48)) (take (digit_run cs) cs) ≡ decimal (10 * 0 + (c - 48)) cs =
        decimal-own (10 * 0 + (c - 48)) cs in
        (rw (e, d, n), rw (e, d, run-own cs))
    digit false d e = (rw (e, d), refl)

    star : (t : Bool) → eqb c 42 ≡ t → OwnCount (c ∷ cs) (if t then 1 else digit_run (c ∷ cs))
    star true e = (rw e, rw e)
    star false e = digit (is_decimal c) refl e

flag-own : (cs : List ℕ) → flagged (take (tail_length cs) cs) ≡ flagged cs
unfolding flagged count_length
flag-own [] = refl
flag-own (c ∷ cs) = step (eqb c 117) refl
  where
    front : (n : ℕ) → eqb c 117 ≡ false → flagged (take n (c ∷ cs)) ≡ false
    front zero e = refl
    front (suc n) e = e

    step : (t : Bool) → eqb c 117 ≡ t → flagged (take (to_nat t + count_length (drop (to_nat t) (c ∷ cs))) (c ∷ cs)) ≡ t
    step true e = rw (add_comm 1 (count_length cs), add-one) e
    step false e = front (0 + count_length (c ∷ cs)) e

take_behind : (k m : ℕ) (cs : List ℕ) → drop k (take (k + m) cs) ≡ take m (drop k cs)
take_behind zero m cs = rw zero-add
take_behind (suc k) m [] = rw (take-nil (suc k + m), take-nil m)
take_behind (suc k) m (c ∷ cs) = rw suc-add (take_behind k m cs)

-- so the field is the same where nothing follows it
after-own : (packing : Bool) (at : ℕ) (k : Role) (cs : List ℕ)
    → field_after packing at k (take (tail_length cs) cs) ≡ field_after packing at k cs
unfolding field_after
after-own packing at k cs =
    let rest : List ℕ = drop (to_nat (flagged cs)) cs in
    rw (flag-own cs, take_behind (to_nat (flagged cs)) (count_length rest) cs, (count-own rest).0, (count-own rest).1)

-- and wherever it stands: only the places of refusals move
abbrev Alike : Step → Step → Type 0
Alike space s = Unit {0}
Alike (field f n) s = s ≡ field f n
Alike (bad why place) s = Unit {0}

module _ (packing : Bool) (at c : ℕ) (cs : List ℕ) where
  alike_end : (p q p' q' : ℕ) (l m : Bool) (f : Field) (n : ℕ)
      → Alike (step_from (demand l BadCount p >>= (λ _. demand m BadMove q >>= (λ _. ok (f, n)))))
      (step_from (demand l BadCount p' >>= (λ _. demand m BadMove q' >>= (λ _. ok (f, n)))))
  alike_end p q p' q' false m f n = tt
  alike_end p q p' q' true false f n = tt
  alike_end p q p' q' true true f n = refl

  alike_typed : (t : Option Role)
      → Alike (step_from (elim t [ Some k ↦ field_after packing at k cs | None ↦ refused BadType at ]))
      (step_from (elim t [ Some k ↦ field_after packing 0 k (take (tail_length cs) cs) | None ↦ refused BadType 0 ]))
  unfolding field_after
  alike_typed (Some k) =
      let u = flagged cs in
      let rest : List ℕ = drop (to_nat u) cs in
      rw (after-own packing 0 k cs)
      (alike_end (suc at + to_nat u) at (suc 0 + to_nat u) 0 (in_limit (count_of rest)) (has_meaning packing k (count_of rest)) _ (to_nat u + count_length rest))
  alike_typed None = tt

  step-own : Alike (step_of packing at c cs) (step_of packing 0 c (take (tail_length cs) cs))
  unfolding step_of field_at
  step-own = chosen _ _ (eqb c 32) (alike_typed (type_of c))
    where
      chosen : (a b : Step) (t : Bool) → Alike a b → Alike (if t then space else a) (if t then space else b)
      chosen a b true h = tt
      chosen a b false h = h

-- ---- the bytes of a field alone

all-passed : (packing : Bool) (cs : List ℕ) (at n : ℕ) → length cs ≤ n → fields_from packing at n cs ≡ ok []
unfolding fields_from
all-passed packing [] at n h = refl
all-passed packing (c ∷ cs) at zero h = absurd (omega arith)
all-passed packing (c ∷ cs) at (suc n) h = all-passed packing cs (suc at) n (le_of_suc-le-suc h)

field-alone : (packing : Bool) (at c : ℕ) (cs : List ℕ) (f : Field) → step_of packing at c cs ≡ field f (tail_length cs)
    → fields_of packing (c ∷ take (tail_length cs) cs) ≡ ok (f ∷ [])
unfolding fields_of fields_from
field-alone packing at c cs f e =
    let own : List ℕ = take (tail_length cs) cs in
    let same : step_of packing 0 c own ≡ field f (tail_length cs) =
    subst (λ (s : Step). Alike s (step_of packing 0 c own)) e (step-own packing at c cs) in
    let none : fields_from packing 1 (tail_length cs) own ≡ ok [] =
    all-passed packing own 1 (tail_length cs) (omega (arith, length-take (tail_length cs) cs)) in
    rw (same, none)

-- ---- the whole text

-- what is left of a text from a place on
record Left (text : List ℕ) (at c : ℕ) (cs : List ℕ) : Type 0 where
  inside : at < length text
  here : get_or text at 0 ≡ c
  after : drop (suc at) text ≡ cs

left : (text : List ℕ) (at c : ℕ) (cs : List ℕ) → drop at text ≡ c ∷ cs → Left text at c cs
left text at c cs e = split (length text) at
    (λ (h : length text ≤ at). let none : [] ≡ c ∷ cs = sym (drop_of_length-le text h) ∙ e in let z : ◌≡◌ {A = ℕ} 0 1 = cc in absurd (omega arith))
    (λ (h : at < length text).
    let both : get_or text at 0 ∷ drop (suc at) text ≡ c ∷ cs = sym (drop-cons text at 0 h) ∙ e in
    record { inside = h; here = cc; after = cc })
  where
    split : (a b : ℕ) → (a ≤ b → Left text at c cs) → (b < a → Left text at c cs) → Left text at c cs
    split a b f g = elim (dec_le a b) [ yes h ↦ f h | no h ↦ g (lt_of_not-le h) ]

module _ (packing : Bool) (text : List ℕ) where
  -- a space in front
  made-space : (at : ℕ) (cs : List ℕ) → drop at text ≡ 32 ∷ cs → (ps : List Placed) → MadeOf packing text (suc at) ps
      → MadeOf packing text at ps
  made-space at cs d [] m = rw d (refl, rw (left text at 32 cs d).after at m)
  made-space at cs d (p ∷ ps) m =
      let s : Stands packing text (suc at) p = m.0 in
      let one : p.place - at ≡ suc (p.place - suc at) = omega (arith, s.after) in
      let gap : Spaces (take (p.place - at) (drop at text)) =
      rw (one, d) (refl, rw (left text at 32 cs d).after at s.gap) in
      (record { after = omega (arith, s.after); gap = gap; inside = s.inside; letter = s.letter; type = s.type; spelled = s.spelled }, m.1)

  made-step : (at c : ℕ) (cs : List ℕ) → drop at text ≡ c ∷ cs → (s : Step) → step_of packing at c cs ≡ s
      → Reads c cs s → (rest : Result (List Placed))
      → ((qs : List Placed) → step_extra s ≤ length cs → rest ≡ ok qs → MadeOf packing text (suc at + step_extra s) qs)
      → (ps : List Placed) → placed_before at c s rest ≡ ok ps → MadeOf packing text at ps
  made-step at c cs d space e r rest ih ps k = made-space at cs (rw r at d) ps (rw add-zero at (ih ps (omega arith) k))
  made-step at c cs d (field f n) e r rest ih ps k =
      let (qs, k₁, k₂) = bound rest (λ qs. ok (record { what = f; place = at; letter = c; size = suc n } ∷ qs)) ps k in
      let l : Left text at c cs = left text at c cs d in
      let few : n ≤ length cs = omega (arith, r.1, tail_within cs) in
      let alone : fields_of packing (c ∷ take n cs) ≡ ok (f ∷ []) =
      rw r.1 (field-alone packing at c cs f (rw r.1 at e)) in
      let on : suc at + n ≡ at + suc n = omega arith in
      subst (MadeOf packing text at) (ok-inj k₂) (
        record {
          after = omega arith;
          gap = rw sub_self tt;
          inside = omega (arith, l.inside, ap length l.after, length-drop (suc at) text);
          letter = sym l.here;
          type = r.0;
          spelled = rw d alone;
        },
        rw on at (ih qs few k₁),
      )
  made-step at c cs d (bad why place) e r rest ih ps k = no-refusal k

  made-from : (cs : List ℕ) (at n : ℕ) → drop at text ≡ cs → n ≤ length cs → (ps : List Placed)
      → placed_from packing at n cs ≡ ok ps → MadeOf packing text (at + n) ps
  unfolding placed_from
  made-from [] at n d h ps e =
      let end : at + n ≡ at = omega arith in
      subst (MadeOf packing text (at + n)) (ok-inj e) (rw (end, d) tt)
  made-from (c ∷ cs) at (suc n) d h ps e =
      let on : at + suc n ≡ suc at + n = omega arith in
      rw on (made-from cs (suc at) n (left text at c cs d).after (le_of_suc-le-suc h) ps e)
  made-from (c ∷ cs) at zero d h ps e =
      let s : Step = step_of packing at c cs in
      rw add-zero
      (made-step at c cs d s refl (reads-step packing at c cs) (placed_from packing (suc at) (step_extra s) cs)
      (λ qs l k. made-from cs (suc at) (step_extra s) (left text at c cs d).after l qs k) ps e)

pub places : Places
unfolding placed_fields
places packing text =
    record { fields = forgotten packing text; made = λ ps e. made-from packing text text 0 0 refl (omega arith) ps e }
