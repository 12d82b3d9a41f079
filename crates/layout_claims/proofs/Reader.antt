-- What is spelled is read, and what is at fault is refused. Over a layout the reader goes field by field as the
-- spelling does, and on where the next byte does not belong to the last field; and there it finds the fault.
use Prim.Native.Nat.{ℕ, zero, suc, ◌+◌}
use native.Mathlib.Nat.{add-zero, zero-add}
use native.Mathlib.Omega.{arith}
use mathlib.Core.Path.{◌≡◌, refl, sym, ap, ◌∙◌, subst}
use mathlib.Core.Logic.{◌⊎◌, inl, inr, ⊎_elim}
use mathlib.Core.Bool.{Bool, true, false}
use mathlib.Core.List.{List, [], ◌∷◌, ◌++◌, append_assoc, append-nil}
use borrow.Author.Tests.{le-leb, lt-leb, ne_eqb}
use lib.ListN.{length, drop, length-append}
use lib.Seq.{drop_at, drop-nil}
use Rattle.std.specs.declared.option.Option.TheVariants.{Some, None}
use Rattle.layout.specs.declared.Role.{Role}
use Rattle.layout.specs.declared.Role.TheVariants.{Data, Move}
use Rattle.layout.specs.declared.Motion.TheVariants.{Skip, Back, Goto}
use Rattle.layout.specs.declared.Count.{Count}
use Rattle.layout.specs.declared.Count.TheVariants.{Absent, Star, Times}
use Rattle.layout.specs.declared.Field.{Field}
use Rattle.layout.specs.declared.Refusal.{Refusal}
use Rattle.layout.specs.declared.Refusal.TheVariants.{BadType, BadCount, BadMove}
use Rattle.layout.specs.Refusals.{Result, ok, refused, ◌>>=◌}
use Rattle.layout.specs.Layout.{max_count, type_of, in_limit, has_meaning, to_nat, space, field, bad, step_from, field_after, field_at, step_of, fields_from, fields_of}
use Rattle.layout_claims.specs.Spelling.{flag, Counts, written, Spells, nothing, spaced, next, Small, Misused, no_place, no_end, Allowed, Spelled, Accepted}
use Rattle.layout_claims.specs.Faults.{Ends, Faulty, unknown, large, misused, GoesOn}
use Rattle.layout_claims.specs.Claim.{Strays}
use Rattle.layout_claims.proofs.Scan.{known-loose, Apart, apart-end, Scanned, scanned, AtLeast, at_least}
use Rattle.layout_claims.proofs.Form.{no-space, starts, apart-starts}
use Rattle.layout_claims.proofs.Ends.{ends-apart, on-space, on-next, loose-ends, apart-behind, strays}

-- ---- one step of the reader

small-limit : (n : Count) → Small n → in_limit n ≡ true
small-limit Absent h = refl
small-limit Star h = refl
small-limit (Times n) h = le-leb n max_count h

-- number 4 applies just where a count has no meaning
pub misuse : {packing : Bool} {k : Role} {n : Count} → Misused packing k n
    → (in_limit n ≡ true) × (has_meaning packing k n ≡ false)
misuse no_place = (refl, refl)
misuse no_end = (refl, refl)

pub misused-or-not : (packing : Bool) (k : Role) (n : Count) → Misused packing k n ⊎ (has_meaning packing k n ≡ true)
misused-or-not packing (Data s) n = inr refl
misused-or-not packing (Move Skip) Absent = inr refl
misused-or-not true (Move Skip) Star = inl no_end
misused-or-not false (Move Skip) Star = inr refl
misused-or-not packing (Move Skip) (Times n) = inr refl
misused-or-not packing (Move Back) n = inr refl
misused-or-not packing (Move Goto) Absent = inl no_place
misused-or-not packing (Move Goto) Star = inr refl
misused-or-not packing (Move Goto) (Times n) = inr refl

has-meaning : (packing : Bool) (k : Role) (n : Count) → (Misused packing k n → ⊥) → has_meaning packing k n ≡ true
has-meaning packing k n h = ⊎_elim (λ m. absurd (h m)) (λ e. e) (misused-or-not packing k n)

module _ (packing : Bool) (at c : ℕ) (cs : List ℕ) where
  pub step-space : c ≡ 32 → step_of packing at c cs ≡ space
  unfolding step_of
  step-space e = rw e

  pub step-unknown : (c ≡ 32 → ⊥) → type_of c ≡ None → step_of packing at c cs ≡ bad BadType at
  unfolding step_of field_at
  step-unknown h e = rw (ne_eqb c 32 h, e, field_at)

  module _ (k : Role) (e : type_of c ≡ Some k) where
    step-known : step_of packing at c cs ≡ step_from (field_after packing at k cs)
    unfolding step_of field_at
    step-known = rw (ne_eqb c 32 (no-space c k e), e, field_at)

    module _ (u : Bool) (n : Count) (m : ℕ) (s : Scanned u n m cs) where
      pub step_field : Small n → (Misused packing k n → ⊥)
          → step_of packing at c cs ≡ field (record { role = k; unsigned = u; count = n }) m
      unfolding field_after
      step_field small good =
          step-known ∙ (rw (s.flag, s.count, small-limit n small, has-meaning packing k n good, s.size))

      pub step-large : in_limit n ≡ false → step_of packing at c cs ≡ bad BadCount (suc at + to_nat u)
      unfolding field_after
      step-large h = step-known ∙ (rw (s.flag, s.count, h))

      pub step-misused : Misused packing k n → step_of packing at c cs ≡ bad BadMove at
      unfolding field_after
      step-misused h = let g = misuse h in step-known ∙ (rw (s.flag, s.count, g.0, g.1))

pub flag-length : (u : Bool) → to_nat u ≡ length (flag u)
flag-length true = refl
flag-length false = refl

-- ---- reading on

-- fields in front of those that follow
abbrev onto : List Field → Result (List Field) → Result (List Field)
onto [] r = r
onto (f ∷ fs) r = onto fs r >>= (λ gs. ok (f ∷ gs))

onto-none : (fs : List Field) → onto fs (ok []) ≡ ok fs
onto-none [] = refl
onto-none (f ∷ fs) = rw (onto-none fs)

onto-refused : (fs : List Field) (why : Refusal) (place : ℕ) → onto fs (refused why place) ≡ refused why place
onto-refused [] why place = refl
onto-refused (f ∷ fs) why place = rw (onto-refused fs why place)

-- the byte after a text does not go on with a field of it
abbrev Stops : List ℕ → List ℕ → Type 0
Stops front [] = Unit {0}
Stops front (c ∷ more) = GoesOn front c → ⊥

stops-later : (front later rest : List ℕ) → ((c : ℕ) → GoesOn later c → GoesOn front c)
    → Stops front rest → Stops later rest
stops-later front later [] h s = tt
stops-later front later (c ∷ more) h s = λ g. s (h c g)

-- the next byte stands one further on
pub moved : (at n : ℕ) → suc at + n ≡ at + suc n
moved at n = omega arith

module _ (packing : Bool) where
  skipped : (cs : List ℕ) (at n : ℕ) → fields_from packing at n cs ≡ fields_from packing (at + n) 0 (drop n cs)
  unfolding fields_from
  skipped [] at n = rw drop-nil
  skipped (c ∷ cs) at zero = rw add-zero
  skipped (c ∷ cs) at (suc n) =
      skipped cs (suc at) n ∙ ap (λ (i : ℕ). fields_from packing i 0 (drop n cs)) (moved at n)

  over-space : (at : ℕ) (cs : List ℕ) → fields_from packing at 0 (32 ∷ cs) ≡ fields_from packing (suc at) 0 cs
  unfolding fields_from
  over-space at cs = refl

  module _ {n : Count} {count : List ℕ} (c : ℕ) (k : Role) (u : Bool) (e : type_of c ≡ Some k) (q : Counts n count)
    where
      over-field : (at : ℕ) (rest : List ℕ) → Apart u n rest → Small n → (Misused packing k n → ⊥)
          → fields_from packing at 0 ((c ∷ (flag u ++ count)) ++ rest)
          ≡ onto (record { role = k; unsigned = u; count = n } ∷ [])
          (fields_from packing (at + suc (length (flag u ++ count))) 0 rest)
      unfolding fields_from
      over-field at rest apart small good =
          let bytes : List ℕ = flag u ++ count in
          let size : ℕ = length bytes in
          let on : fields_from packing (suc at) size (bytes ++ rest) ≡ fields_from packing (at + suc size) 0 rest =
          skipped (bytes ++ rest) (suc at) size ∙ (rw (drop_at bytes rest size refl, moved at size)) in
          rw (step_field packing at c (bytes ++ rest) k e u n size (scanned q u rest apart) small good, on)

  reads : {fs : List Field} {front : List ℕ} → Spells fs front → Allowed packing fs
      → (at : ℕ) (rest : List ℕ) → Stops front rest
      → fields_from packing at 0 (front ++ rest) ≡ onto fs (fields_from packing (at + length front) 0 rest)
  reads nothing a at rest h = ap (λ (i : ℕ). fields_from packing i 0 rest) (sym (add-zero at))
  reads {fs} (spaced {text = text} p) a at rest h =
      over-space at (text ++ rest)
      ∙ reads p a (suc at) rest (stops-later (32 ∷ text) text rest (on-space text) h)
      ∙ ap (λ (i : ℕ). onto fs (fields_from packing i 0 rest)) (moved at (length text))
  reads (next {fs = fs} {rest = text} (written {c = c} {k = k} {u = u} {n = n} {count = count} e q) p) a at rest h =
      let bytes : List ℕ = c ∷ (flag u ++ count) in
      let f : Field = record { role = k; unsigned = u; count = n } in
      let later : Stops text rest = stops-later (bytes ++ text) text rest (on-next (written {u = u} e q) text) h in
      let sum : at + length bytes + length text ≡ at + length (bytes ++ text) =
      omega (arith, length-append bytes text) in
      ap (fields_from packing at 0) (append_assoc bytes text rest)
      ∙ over-field c k u e q at (text ++ rest) (apart-on rest h) a.0 a.1
      ∙ ap (onto (f ∷ [])) (reads p a.2 (at + length bytes) rest later)
      ∙ ap (λ (i : ℕ). onto (f ∷ fs) (fields_from packing i 0 rest)) sum
    where
      apart-on : (rest : List ℕ) → Stops ((c ∷ (flag u ++ count)) ++ text) rest → Apart u n (text ++ rest)
      apart-on [] s = subst (Apart u n) (sym (append-nil text)) (apart-starts u n text (starts p))
      apart-on (b ∷ more) s = apart-behind c k u e q text (starts p) b more s

  -- ---- a layout

  pub spelled-read : (text : List ℕ) (fs : List Field) → Spelled packing fs text → fields_of packing text ≡ ok fs
  unfolding fields_of
  spelled-read text fs s =
      ap (fields_from packing 0 0) (sym (append-nil text)) ∙ reads s.form s.allowed 0 [] tt ∙ onto-none fs

  -- ---- a fault after a layout

  bad-behind : (front : List ℕ) (c : ℕ) (cs : List ℕ) (why : Refusal) (place : ℕ) → Accepted packing front
      → Stops front (c ∷ cs) → step_of packing (length front) c cs ≡ bad why place
      → fields_of packing (front ++ (c ∷ cs)) ≡ refused why place
  unfolding fields_of fields_from
  bad-behind front c cs why place (fs, s) h e =
      reads s.form s.allowed 0 (c ∷ cs) h ∙ (rw (zero-add (length front), e) (onto-refused fs why place))

  pub faulty-refused : {text : List ℕ} {why : Refusal} {place : ℕ} → Faulty packing text why place
      → fields_of packing text ≡ refused why place
  unfolding Strays
  faulty-refused (unknown {front = front} c more a h) =
      let at : ℕ = length front in
      let n = (strays front c (a.0, a.1.form)).0 h in
      bad-behind front c more BadType at a n.2 (step-unknown packing at c more n.0 n.1)
  faulty-refused (large {front = front} c {k = k} u ds more a e d l) =
      let at : ℕ = length front in
      let cs : List ℕ = flag u ++ (ds ++ more) in
      let r : AtLeast u ds more = at_least u ds more d (omega arith) in
      let over : in_limit (Times r.times) ≡ false = lt-leb r.times max_count (omega (arith, r.least)) in
      let place : suc at + to_nat u ≡ at + suc (length (flag u)) = omega (arith, flag-length u) in
      bad-behind front c cs BadCount (at + suc (length (flag u))) a (loose-ends front c (known-loose c k e))
      (step-large packing at c cs k e u (Times r.times) r.size r.scan over ∙ ap (bad BadCount) place)
  faulty-refused (misused {front = front} more a (written {c = c} {k = k} {u = u} {n = n} {count = count} e q) h m) =
      let at : ℕ = length front in
      let bytes : List ℕ = flag u ++ count in
      bad-behind front c (bytes ++ more) BadMove at a (loose-ends front c (known-loose c k e))
      (step-misused packing at c (bytes ++ more) k e u n (length bytes) (scanned q u more (ends_on more h)) m)
    where
      ends_on : (more : List ℕ) → Ends (c ∷ (flag u ++ count)) more → Apart u n more
      ends_on [] h = apart-end u n
      ends_on (b ∷ bs) h = ends-apart c k u e q b bs h
