-- Two texts joined: the second, accepted by itself, begins with nothing that could continue the last field of the
-- first, and its fields are the same wherever it stands. So the joined text has the fields of the first and then those
-- of the second.
use Rattle.std.specs.declared.option.Option.{Option}
use Rattle.std.specs.declared.option.Option.TheVariants.{Some, None}
use Rattle.std.specs.Prelude.{if◌then◌else◌}
use Prim.Native.Nat.{ℕ, zero, suc, ◌+◌, ◌-◌, ◌*◌, ◌/◌, ◌≤◌}
use native.Mathlib.Nat.{not-suc-le-zero, le_of_suc-le-suc, lt_of_not-le}
use native.Mathlib.Decide.{dec_le}
use native.Mathlib.Omega.{arith}
use mathlib.Core.Path.{◌≡◌, refl, ap, ◌∙◌}
use mathlib.Core.Bool.{Bool, true, false}
use mathlib.Core.List.{List, [], ◌∷◌, ◌++◌}
use borrow.Author.Tests.{ne_eqb}
use lib.Dec.{eqb}
use lib.ListN.{length, drop, length-drop}
use lib.Seq.{drop-append-le}
use Rattle.layout.specs.declared.Role.{Role}
use Rattle.layout.specs.declared.Field.{Field}
use Rattle.layout.specs.declared.Refusal.TheVariants.{BadType, BadCount, BadMove}
use Rattle.layout.specs.Refusals.{Result, ok, refused, ◌>>=◌, demand}
use Rattle.layout.specs.Layout.{is_decimal, digit_run, decimal, type_of, flagged, count_of, count_length, in_limit, has_meaning, to_nat, Step, space, field, bad, step_from, field_after, field_at, step_of, step_extra, step_then, fields_from, fields_of}
use Rattle.layout.proofs.Laws.{no-refusal, bound, ok-inj}
use Rattle.layout.proofs.Steps.{count-within, flag-within, below-decimal, above-decimal}
use Rattle.layout.proofs.Letters.{no-letter}

-- ---- what an accepted text begins with: no flag, no star and no digit

abbrev Apart : List ℕ → Type 0
Apart [] = Unit {0}
Apart (c ∷ cs) = (eqb c 117 ≡ false) × (eqb c 42 ≡ false) × (is_decimal c ≡ false)

no-type {ℓ} : {X : Type ℓ} (packing : Bool) (at c : ℕ) (cs : List ℕ) (fs : List Field) → fields_from packing at 0 (c ∷ cs) ≡ ok fs
    → eqb c 32 ≡ false → type_of c ≡ None → X
unfolding fields_from step_of field_at
no-type packing at c cs fs e h k = no-refusal (rw (h, k, field_at) at e)

begins : (packing : Bool) (at : ℕ) (cs : List ℕ) (fs : List Field) → fields_from packing at 0 cs ≡ ok fs → Apart cs
unfolding type_of
begins packing at [] fs e = tt
begins packing at (c ∷ cs) fs e = (
  ne_eqb c 117 (λ h. no-type packing at c cs fs e (rw h) (rw h)),
  ne_eqb c 42 (λ h. no-type packing at c cs fs e (rw h) (rw h)),
  elim (dec_le 48 c) [
    | no h ↦ below-decimal c (lt_of_not-le h)
    | yes h ↦ elim (dec_le c 57) [
      | no k ↦ above-decimal c (lt_of_not-le k)
      | yes k ↦ no-type packing at c cs fs e (ne_eqb c 32 (omega arith)) (no-letter c (λ (d : c / 64 ≡ 1). omega arith))
    ]
  ],
)

-- ---- a field at the end of a text is the same where such a text follows

run-same : (cs ys : List ℕ) → Apart ys → digit_run (cs ++ ys) ≡ digit_run cs
unfolding digit_run
run-same [] [] h = refl
run-same [] (y ∷ ys) h = rw h.2
run-same (c ∷ cs) ys h = rw (run-same cs ys h)

decimal-same : (v : ℕ) (cs ys : List ℕ) → Apart ys → decimal v (cs ++ ys) ≡ decimal v cs
unfolding decimal
decimal-same v [] [] h = refl
decimal-same v [] (y ∷ ys) h = rw h.2
decimal-same v (c ∷ cs) ys h = rw (decimal-same (10 * v + (c - 48)) cs ys h)

count_same : (cs ys : List ℕ) → Apart ys → count_of (cs ++ ys) ≡ count_of cs
unfolding count_of
count_same [] [] h = refl
count_same [] (y ∷ ys) h = rw (h.1, h.2)
count_same (c ∷ cs) ys h = rw (decimal-same 0 (c ∷ cs) ys h)

length-same : (cs ys : List ℕ) → Apart ys → count_length (cs ++ ys) ≡ count_length cs
unfolding count_length
length-same [] [] h = refl
length-same [] (y ∷ ys) h = rw (h.1, run-same [] (y ∷ ys) h)
length-same (c ∷ cs) ys h = rw (run-same (c ∷ cs) ys h)

flag_same : (cs ys : List ℕ) → Apart ys → flagged (cs ++ ys) ≡ flagged cs
unfolding flagged
flag_same [] [] h = refl
flag_same [] (y ∷ ys) h = h.0
flag_same (c ∷ cs) ys h = refl

after_same : (packing : Bool) (at : ℕ) (k : Role) (cs ys : List ℕ) → Apart ys → field_after packing at k (cs ++ ys) ≡ field_after packing at k cs
unfolding field_after
after_same packing at k cs ys h =
    let rest : List ℕ = drop (to_nat (flagged cs)) cs in
    rw (flag_same cs ys h, drop-append-le (to_nat (flagged cs)) cs ys (flag-within cs), count_same rest ys h, length-same rest ys h)

at_same : (packing : Bool) (at c : ℕ) (cs ys : List ℕ) → Apart ys → field_at packing at c (cs ++ ys) ≡ field_at packing at c cs
unfolding field_at
at_same packing at c cs ys h = by-type (type_of c)
  where
    by-type : (t : Option Role) → ◌≡◌ {A = Result (Field × ℕ)} (elim t [ Some k ↦ field_after packing at k (cs ++ ys) | None ↦ refused BadType at ])
        (elim t [ Some k ↦ field_after packing at k cs | None ↦ refused BadType at ])
    by-type (Some k) = after_same packing at k cs ys h
    by-type None = refl

step_same : (packing : Bool) (at c : ℕ) (cs ys : List ℕ) → Apart ys → step_of packing at c (cs ++ ys) ≡ step_of packing at c cs
unfolding step_of
step_same packing at c cs ys h = rw (at_same packing at c cs ys h)

-- ---- a field ends inside its text

inside-end : (p q : ℕ) (l m : Bool) (f : Field) (n size : ℕ) → n ≤ size
    → step_extra (step_from (demand l BadCount p >>= (λ _. demand m BadMove q >>= (λ _. ok (f, n))))) ≤ size
inside-end p q false m f n size h = omega arith
inside-end p q true false f n size h = omega arith
inside-end p q true true f n size h = h

inside-typed : (packing : Bool) (at : ℕ) (cs : List ℕ) (t : Option Role)
    → step_extra (step_from (elim t [ Some k ↦ field_after packing at k cs | None ↦ refused BadType at ])) ≤ length cs
unfolding field_after
inside-typed packing at cs (Some k) =
    let u = flagged cs in
    let rest : List ℕ = drop (to_nat u) cs in
    inside-end (suc at + to_nat u) at (in_limit (count_of rest)) (has_meaning packing k (count_of rest)) _ (to_nat u + count_length rest) (length cs)
    (omega (arith, flag-within cs, count-within rest, length-drop (to_nat u) cs))
inside-typed packing at cs None = omega arith

inside : (packing : Bool) (at c : ℕ) (cs : List ℕ) → step_extra (step_of packing at c cs) ≤ length cs
unfolding step_of field_at
inside packing at c cs = chosen (eqb c 32) (inside-typed packing at cs (type_of c))
  where
    chosen : (t : Bool) → step_extra (step_from (field_at packing at c cs)) ≤ length cs → step_extra (if t then space else step_from (field_at packing at c cs)) ≤ length cs
    chosen true h = omega arith
    chosen false h = h

-- ---- an accepted text has the same fields wherever it begins: only the places of refusals move

abbrev Same : Step → Step → Type 0
Same space s = s ≡ space
Same (field f n) s = s ≡ field f n
Same (bad why place) s = Unit {0}

same_end : (p q p' q' : ℕ) (l m : Bool) (f : Field) (n : ℕ)
    → Same (step_from (demand l BadCount p >>= (λ _. demand m BadMove q >>= (λ _. ok (f, n)))))
    (step_from (demand l BadCount p' >>= (λ _. demand m BadMove q' >>= (λ _. ok (f, n)))))
same_end p q p' q' false m f n = tt
same_end p q p' q' true false f n = tt
same_end p q p' q' true true f n = refl

same_typed : (packing : Bool) (at at' : ℕ) (cs : List ℕ) (t : Option Role)
    → Same (step_from (elim t [ Some k ↦ field_after packing at k cs | None ↦ refused BadType at ]))
    (step_from (elim t [ Some k ↦ field_after packing at' k cs | None ↦ refused BadType at' ]))
unfolding field_after
same_typed packing at at' cs (Some k) =
    let u = flagged cs in
    let rest : List ℕ = drop (to_nat u) cs in
    same_end (suc at + to_nat u) at (suc at' + to_nat u) at' (in_limit (count_of rest)) (has_meaning packing k (count_of rest)) _ (to_nat u + count_length rest)
same_typed packing at at' cs None = tt

same_step : (packing : Bool) (at at' c : ℕ) (cs : List ℕ) → Same (step_of packing at c cs) (step_of packing at' c cs)
unfolding step_of field_at
same_step packing at at' c cs = chosen _ _ (eqb c 32) (same_typed packing at at' cs (type_of c))
  where
    chosen : (a b : Step) (t : Bool) → Same a b → Same (if t then space else a) (if t then space else b)
    chosen a b true h = refl
    chosen a b false h = h

module _ (packing : Bool) where
  moved-step : (at at' : ℕ) (cs : List ℕ) → ((m : ℕ) (gs : List Field) → fields_from packing at m cs ≡ ok gs → fields_from packing at' m cs ≡ ok gs)
      → (s s' : Step) → Same s s' → (fs : List Field) → step_then s (fields_from packing at (step_extra s) cs) ≡ ok fs → step_then s' (fields_from packing at' (step_extra s') cs) ≡ ok fs
  moved-step at at' cs ih space s' l fs e = rw l (ih 0 fs e)
  moved-step at at' cs ih (field f m) s' l fs e =
      let (gs, e₁, e₂) = bound (fields_from packing at m cs) (λ gs. ok (f ∷ gs)) fs e in
      rw (l, ih m gs e₁) e₂
  moved-step at at' cs ih (bad why place) s' l fs e = no-refusal e

  moved : (cs : List ℕ) (at at' n : ℕ) (fs : List Field) → fields_from packing at n cs ≡ ok fs → fields_from packing at' n cs ≡ ok fs
  unfolding fields_from
  moved [] at at' n fs e = e
  moved (c ∷ cs) at at' (suc n) fs e = moved cs (suc at) (suc at') n fs e
  moved (c ∷ cs) at at' zero fs e =
      moved-step (suc at) (suc at') cs (λ m gs k. moved cs (suc at) (suc at') m gs k) (step_of packing at c cs) (step_of packing at' c cs) (same_step packing at at' c cs) fs e

  -- ---- two texts joined

  module _ (ys : List ℕ) (gs : List Field) (second : (i : ℕ) → fields_from packing i 0 ys ≡ ok gs) where
    joined_step : (at : ℕ) (cs : List ℕ) → ((m : ℕ) (fs : List Field) → m ≤ length cs → fields_from packing at m cs ≡ ok fs → fields_from packing at m (cs ++ ys) ≡ ok (fs ++ gs))
        → (s : Step) → step_extra s ≤ length cs → (fs : List Field) → step_then s (fields_from packing at (step_extra s) cs) ≡ ok fs
        → step_then s (fields_from packing at (step_extra s) (cs ++ ys)) ≡ ok (fs ++ gs)
    joined_step at cs ih space l fs e = ih 0 fs l e
    joined_step at cs ih (field f m) l fs e =
        let (hs, e₁, e₂) = bound (fields_from packing at m cs) (λ hs. ok (f ∷ hs)) fs e in
        let same : f ∷ hs ≡ fs = ok-inj e₂ in
        rw (ih m hs l e₁) (ap (λ (r : List Field). ok (r ++ gs)) same)
    joined_step at cs ih (bad why place) l fs e = no-refusal e

    joined-from : (cs : List ℕ) (at n : ℕ) (fs : List Field) → n ≤ length cs → fields_from packing at n cs ≡ ok fs → fields_from packing at n (cs ++ ys) ≡ ok (fs ++ gs)
    unfolding fields_from
    joined-from [] at zero fs l e = second at ∙ ap (λ (r : List Field). ok (r ++ gs)) (ok-inj e)
    joined-from [] at (suc n) fs l e = absurd (not-suc-le-zero l)
    joined-from (c ∷ cs) at (suc n) fs l e = joined-from cs (suc at) n fs (le_of_suc-le-suc l) e
    joined-from (c ∷ cs) at zero fs l e =
        rw (step_same packing at c cs ys (begins packing 0 ys gs (second 0)))
        (joined_step (suc at) cs (λ m hs l k. joined-from cs (suc at) m hs l k) (step_of packing at c cs) (inside packing at c cs) fs e)

-- the fields of two texts joined are those of the first and then those of the second
pub joined-fields : (packing : Bool) (xs ys : List ℕ) (fs gs : List Field) → fields_of packing xs ≡ ok fs → fields_of packing ys ≡ ok gs
    → fields_of packing (xs ++ ys) ≡ ok (fs ++ gs)
unfolding fields_of
joined-fields packing xs ys fs gs e k = joined-from packing ys gs (λ i. moved packing ys 0 i 0 gs k) xs 0 0 fs (omega arith) e
