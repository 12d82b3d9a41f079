-- Laws of the layout reader that the crates above go by.
use Rattle.std.specs.declared.option.Option.{Option}
use Rattle.std.specs.declared.option.Option.TheVariants.{Some, None}
use Rattle.std.specs.Prelude.{if◌then◌else◌}
use Prim.Native.Nat.{ℕ, zero, suc, ◌+◌, ◌-◌, ◌*◌, ◌≤◌, ◌<◌, min}
use native.Mathlib.Nat.{suc-ne-zero, add-zero, lt_of_not-le}
use native.Mathlib.Decide.{dec_le}
use native.Mathlib.Omega.{arith}
use mathlib.Core.Path.{◌≡◌, refl, sym, ap, ◌∙◌, subst}
use mathlib.Core.Bool.{Bool, true, false}
use mathlib.Core.List.{List, [], ◌∷◌}
use borrow.Author.Tests.{eq-eqb}
use lib.Dec.{eqb}
use lib.ListN.{length, get_or, drop, drop_of_length-le}
use lib.Seq.{drop-nil, drop-cons, drop-drop}
use Rattle.layout.specs.declared.Role.{Role}
use Rattle.layout.specs.declared.Role.TheVariants.{Data, Move}
use Rattle.layout.specs.declared.Motion.TheVariants.{Skip, Back, Goto}
use Rattle.layout.specs.declared.Count.{Count}
use Rattle.layout.specs.declared.Count.TheVariants.{Absent, Star, Times}
use Rattle.layout.specs.declared.Field.{Field}
use Rattle.layout.specs.declared.Refusal.{Refusal}
use Rattle.layout.specs.declared.Refusal.TheVariants.{BadType, BadCount, BadMove}
use Rattle.layout.specs.Refusals.{number_of, Result, ok, refused, ◌>>=◌, demand}
use Rattle.layout.specs.Layout.{is_decimal, digit_run, decimal, type_of, flagged, count_of, count_length, in_limit, has_meaning, to_nat, Step, space, field, bad, step_from, field_after, field_at, step_of, step_extra, step_then, fields_from, fields_of}
use Rattle.layout.specs.inside.Parsing.{FitRole, rest}

-- ---- results

abbrev IsOk : {A : Type 0} → Result A → Type 0
IsOk (ok a) = Unit {0}
IsOk (refused n p) = ⊥

pub no-refusal {ℓ} : {A : Type 0} {X : Type ℓ} {n : Refusal} {p : ℕ} {a : A} → refused n p ≡ ok a → X
no-refusal {A = A} e = absurd (subst (λ (r : Result A). IsOk r) (sym e) tt)

-- what is bound was accepted, and then so was the rest
pub bound : {A B : Type 0} (r : Result A) (f : A → Result B) (b : B) → (r >>= f) ≡ ok b → (a : A) × (r ≡ ok a) × (f a ≡ ok b)
bound (ok a) f b e = (a, refl, e)
bound (refused n p) f b e = no-refusal e

pub demanded : {B : Type 0} (t : Bool) (n : Refusal) (p : ℕ) (f : Unit {0} → Result B) (b : B) → (demand t n p >>= f) ≡ ok b → (t ≡ true) × (f tt ≡ ok b)
demanded true n p f b e = (refl, e)
demanded false n p f b e = no-refusal e

pub demand-true : (t : Bool) (n : Refusal) (p : ℕ) → demand t n p ≡ ok tt → t ≡ true
demand-true true n p e = refl
demand-true false n p e = no-refusal e

-- a check that passed at one place passes at another
pub still : {A : Type 0} {a : A} (t : Bool) (why : Refusal) (i j : ℕ) (r s : Result A) → (r ≡ ok a → s ≡ ok a)
    → (demand t why i >>= (λ _. r)) ≡ ok a → (demand t why j >>= (λ _. s)) ≡ ok a
still true why i j r s k e = k e
still false why i j r s k e = no-refusal e

pub still-last : (t : Bool) (why : Refusal) (i j : ℕ) → demand t why i ≡ ok tt → demand t why j ≡ ok tt
still-last true why i j e = refl
still-last false why i j e = no-refusal e

pub no-number-zero {ℓ} : {X : Type ℓ} (n : Refusal) → number_of n ≡ 0 → X
no-number-zero n e = absurd (suc-ne-zero _ e)

-- ---- the types

abbrev pub FitType : Option Role → Type 0
FitType (Some k) = FitRole k
FitType None = Unit {0}

pub fit-either : (t : Bool) (a b : Option Role) → FitType a → FitType b → FitType (if t then a else b)
fit-either true a b h k = h
fit-either false a b h k = k

sound-type : (c : ℕ) → FitType (type_of c)
unfolding type_of
sound-type c =
    fit-either (eqb c 97) _ _ tt
    (fit-either (eqb c 65) _ _ tt
    (fit-either (eqb c 98) _ _ tt
    (fit-either (eqb c 66) _ _ tt
    (fit-either (eqb c 104) _ _ tt
    (fit-either (eqb c 72) _ _ tt
    (fit-either (eqb c 99) _ _ (omega arith, omega arith)
    (fit-either (eqb c 115) _ _ (omega arith, omega arith)
    (fit-either (eqb c 83) _ _ (omega arith, omega arith)
    (fit-either (eqb c 105) _ _ (omega arith, omega arith)
    (fit-either (eqb c 73) _ _ (omega arith, omega arith)
    (fit-either (eqb c 119) _ _ (omega arith, omega arith)
    (fit-either (eqb c 87) _ _ (omega arith, omega arith)
    (fit-either (eqb c 114) _ _ tt
    (fit-either (eqb c 82) _ _ tt
    (fit-either (eqb c 113) _ _ tt
    (fit-either (eqb c 81) _ _ tt
    (fit-either (eqb c 120) _ _ tt
    (fit-either (eqb c 88) _ _ tt
    (fit-either (eqb c 64) _ _ tt tt)))))))))))))))))))

abbrev pub AllSound : List Field → Type 0
AllSound [] = Unit {0}
AllSound (f ∷ fs) = FitRole f.role × AllSound fs

-- ---- a layout that packs also reads, with the same fields, and its types are sound

abbrev Later : Step → Step → Type 0
Later space s = s ≡ space
Later (field f n) s = (s ≡ field f n) × FitRole f.role
Later (bad n p) s = Unit {0}

abbrev ending : Bool → ℕ → Bool → Role → Count → Bool → ℕ → Result (Field × ℕ)
ending packing at l k n u m =
    demand l BadCount (suc at + to_nat u) >>= (λ _. demand (has_meaning packing k n) BadMove at >>= (λ _. ok (record { role = k; unsigned = u; count = n }, m)))

later-end : (at : ℕ) (l : Bool) (k : Role) (n : Count) (u : Bool) (m : ℕ) → FitRole k
    → Later (step_from (ending true at l k n u m)) (step_from (ending false at l k n u m))
later-end at false k n u m h = tt
later-end at true (Data s) n u m h = (refl, h)
later-end at true (Move Skip) Absent u m h = (refl, h)
later-end at true (Move Skip) Star u m h = tt
later-end at true (Move Skip) (Times n) u m h = (refl, h)
later-end at true (Move Back) n u m h = (refl, h)
later-end at true (Move Goto) Absent u m h = tt
later-end at true (Move Goto) Star u m h = (refl, h)
later-end at true (Move Goto) (Times n) u m h = (refl, h)

later-typed : (at : ℕ) (cs : List ℕ) (t : Option Role) → FitType t
    → Later (step_from (elim t [ Some k ↦ field_after true at k cs | None ↦ refused BadType at ]))
    (step_from (elim t [ Some k ↦ field_after false at k cs | None ↦ refused BadType at ]))
unfolding field_after
later-typed at cs (Some k) h =
    let rest = drop (to_nat (flagged cs)) cs in
    later-end at (in_limit (count_of rest)) k (count_of rest) (flagged cs) (to_nat (flagged cs) + count_length rest) h
later-typed at cs None h = tt

later-space : (t : Bool) (a b : Step) → Later a b → Later (if t then space else a) (if t then space else b)
later-space true a b h = refl
later-space false a b h = h

later : (at c : ℕ) (cs : List ℕ) → Later (step_of true at c cs) (step_of false at c cs)
unfolding step_of field_at
later at c cs = later-space (eqb c 32) _ _ (later-typed at cs (type_of c) (sound-type c))

abbrev Reads : ℕ → ℕ → List ℕ → List Field → Type 0
Reads at n cs fs = (fields_from false at n cs ≡ ok fs) × AllSound fs

pub ok-inj : {A : Type 0} {a b : A} → ok a ≡ ok b → a ≡ b
ok-inj e = cc

reads-step : (at : ℕ) (cs : List ℕ) → ((m : ℕ) (gs : List Field) → fields_from true at m cs ≡ ok gs → Reads at m cs gs)
    → (s s' : Step) → Later s s' → (fs : List Field) → step_then s (fields_from true at (step_extra s) cs) ≡ ok fs
    → (step_then s' (fields_from false at (step_extra s') cs) ≡ ok fs) × AllSound fs
reads-step at cs ih space s' l fs e = rw l (ih 0 fs e)
reads-step at cs ih (field f m) s' l fs e =
    let (gs, e₁, e₂) = bound (fields_from true at m cs) (λ gs. ok (f ∷ gs)) fs e in
    let r : Reads at m cs gs = ih m gs e₁ in
    let same : f ∷ gs ≡ fs = ok-inj e₂ in
    (rw (l.0, r.0) e₂, subst AllSound same (l.1, r.1))
reads-step at cs ih (bad n p) s' l fs e = no-refusal e

reads : (cs : List ℕ) (at n : ℕ) (fs : List Field) → fields_from true at n cs ≡ ok fs → Reads at n cs fs
unfolding fields_from
reads [] at n fs e = (e, subst AllSound (ok-inj e) tt)
reads (c ∷ cs) at (suc n) fs e = reads cs (suc at) n fs e
reads (c ∷ cs) at zero fs e =
    reads-step (suc at) cs (λ m gs k. reads cs (suc at) m gs k) (step_of true at c cs) (step_of false at c cs) (later at c cs) fs e

pub packed-reads : (text : List ℕ) (fs : List Field) → fields_of true text ≡ ok fs → (fields_of false text ≡ ok fs) × AllSound fs
unfolding fields_of
packed-reads text fs e = reads text 0 0 fs e

-- ---- one step of the text

skipped : (packing : Bool) (cs : List ℕ) (at n : ℕ) → fields_from packing at n cs ≡ fields_from packing (at + n) 0 (drop n cs)
unfolding fields_from
skipped packing [] at n = rw drop-nil
skipped packing (c ∷ cs) at zero = rw add-zero
skipped packing (c ∷ cs) at (suc n) = skipped packing cs (suc at) n ∙ ap (λ (i : ℕ). fields_from packing i 0 (drop n cs)) (let e : suc at + n ≡ at + suc n = omega arith in e)

pub at_byte : (packing : Bool) (text : List ℕ) (at : ℕ) → at < length text
    → rest packing text at ≡ step_then (step_of packing at (get_or text at 0) (drop (suc at) text)) (rest packing text (suc at + step_extra (step_of packing at (get_or text at 0) (drop (suc at) text))))
unfolding rest fields_from
at_byte packing text at h =
    let s : Step = step_of packing at (get_or text at 0) (drop (suc at) text) in
    ap (fields_from packing at 0) (drop-cons text at 0 h)
    ∙ ap (step_then s) (skipped packing (drop (suc at) text) (suc at) (step_extra s) ∙ ap (fields_from packing (suc at + step_extra s) 0) (drop-drop (step_extra s) (suc at) text))

pub at-end : (packing : Bool) (text : List ℕ) (at : ℕ) → length text ≤ at → rest packing text at ≡ ok []
unfolding rest fields_from
at-end packing text at h = rw (drop_of_length-le text h)

-- ---- the digits of a count

pub run_on : (cs : List ℕ) (i : ℕ) → i < length cs → is_decimal (get_or cs i 0) ≡ true → digit_run (drop i cs) ≡ suc (digit_run (drop (suc i) cs))
unfolding digit_run
run_on cs i h e = rw (drop-cons cs i 0, e)

pub run-stop : (cs : List ℕ) (i : ℕ) → i < length cs → is_decimal (get_or cs i 0) ≡ false → digit_run (drop i cs) ≡ 0
unfolding digit_run
run-stop cs i h e = rw (drop-cons cs i 0, e)

pub run_end : (cs : List ℕ) (i : ℕ) → length cs ≤ i → digit_run (drop i cs) ≡ 0
unfolding digit_run
run_end cs i h = rw (drop_of_length-le cs h)

-- a count may be held at a bound: above it, it stays above
decimal-grows : (v : ℕ) (cs : List ℕ) → v ≤ decimal v cs
unfolding decimal
decimal-grows v [] = omega arith
decimal-grows v (c ∷ cs) = step (is_decimal c) (decimal-grows (10 * v + (c - 48)) cs)
  where
    step : (t : Bool) → 10 * v + (c - 48) ≤ decimal (10 * v + (c - 48)) cs → v ≤ (if t then decimal (10 * v + (c - 48)) cs else v)
    step true h = omega arith
    step false h = omega arith

pub decimal-held : (bound v : ℕ) (cs : List ℕ) → min bound (decimal v cs) ≡ min bound (decimal (min bound v) cs)
decimal-held bound v cs = elim (dec_le v bound) [
  | yes h ↦ ap (λ (x : ℕ). min bound (decimal x cs)) (let e : v ≡ min bound v = omega arith in e)
  | no h ↦ (let k : bound < v = lt_of_not-le h in omega (arith, decimal-grows v cs, decimal-grows (min bound v) cs))
]

-- a space is passed over
pub over-space : (packing : Bool) (text : List ℕ) (at : ℕ) → at < length text → get_or text at 0 ≡ 32 → rest packing text at ≡ rest packing text (suc at)
unfolding step_of
over-space packing text at h e = at_byte packing text at h ∙ rw (eq-eqb (get_or text at 0) 32 e, add-zero)
