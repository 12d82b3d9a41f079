-- What the layout reader accepts is spelled, and what it refuses is at fault: each of its steps is a space, a whole
-- field or the fault, and what is said of the text after a step holds of the text from it on.
use Prim.Native.Nat.{ℕ, zero, suc, ◌+◌, ◌<◌}
use native.Mathlib.Nat.{add-zero, lt_of_not-le}
use native.Mathlib.Decide.{dec_le}
use native.Mathlib.Omega.{arith}
use mathlib.Core.Path.{◌≡◌, refl, sym, ap, ◌∙◌, subst}
use mathlib.Core.Logic.{◌⊎◌, inl, inr, ⊎_elim}
use mathlib.Core.Bool.{Bool, true, false}
use mathlib.Core.List.{List, [], ◌∷◌, ◌++◌, append_assoc}
use borrow.Author.Tests.{eqb-true, eqb-false, lt-leb}
use lib.Dec.{eqb}
use lib.ListN.{length, drop, length-append}
use lib.Seq.{drop_at, drop-nil}
use Rattle.std.specs.declared.option.Option.{Option}
use Rattle.std.specs.declared.option.Option.TheVariants.{Some, None}
use Rattle.layout.specs.declared.Role.{Role}
use Rattle.layout.specs.declared.Count.{Count}
use Rattle.layout.specs.declared.Count.TheVariants.{Absent, Star, Times}
use Rattle.layout.specs.declared.Field.{Field}
use Rattle.layout.specs.declared.Refusal.{Refusal}
use Rattle.layout.specs.Refusals.{Result, ok, refused}
use Rattle.layout.specs.Layout.{max_count, type_of, flagged, count_of, in_limit, has_meaning, to_nat, Step, space, field, bad, step_of, step_extra, step_then, fields_from, fields_of}
use Rattle.layout.proofs.Laws.{no-refusal}
use Rattle.layout_claims.specs.Spelling.{Digits, value, flag, Counts, absent, star, number, written, nothing, spaced, next, Formed, Small, Misused, Spelled, Accepted}
use Rattle.layout_claims.specs.Faults.{Ends, Faulty, unknown, large, misused}
use Rattle.layout_claims.specs.Claim.{Spellings, Places, Judged}
use Rattle.layout_claims.proofs.Scan.{never, Apart, Scanned, scanned, Found, found}
use Rattle.layout_claims.proofs.Form.{unspaced}
use Rattle.layout_claims.proofs.Ends.{behind, no_longer, no-form}
use Rattle.layout_claims.proofs.Reader.{flag-length, moved, misuse, misused-or-not, step-space, step-unknown, step_field, step-large, step-misused, spelled-read, faulty-refused}

-- ---- a field is allowed or not

small-or-large : (n : Count) → Small n ⊎ ((m : ℕ) × (n ≡ Times m) × (max_count < m))
small-or-large Absent = inl tt
small-or-large Star = inl tt
small-or-large (Times m) = elim (dec_le m max_count) [ yes h ↦ inl h | no h ↦ inr (m, refl, lt_of_not-le h) ]

meant : (packing : Bool) (k : Role) (n : Count) → has_meaning packing k n ≡ true → Misused packing k n → ⊥
meant packing k n e m = never (cc (misuse m).1)

-- the digits of a count
digits_of : {n : Count} {count : List ℕ} → Counts n count → (m : ℕ) → n ≡ Times m → Digits count × (value count ≡ m)
digits_of absent m e = never (cc)
digits_of star m e = never (cc)
digits_of (number h) m e = (h, cc)

-- what stands after a field, by its first byte alone
apart-one : (u : Bool) (n : Count) (b : ℕ) (more others : List ℕ) → Apart u n (b ∷ more) → Apart u n (b ∷ others)
unfolding flagged
apart-one u Absent b more others h = record { count = h.count; flag = h.flag }
apart-one u Star b more others h = record { count = h.count; flag = h.flag }
apart-one u (Times m) b more others h = record { count = h.count; flag = h.flag }

apart-front : (u : Bool) (n : Count) (front : List ℕ) (b : ℕ) (more : List ℕ) → Apart u n (front ++ (b ∷ more))
    → Apart u n (front ++ (b ∷ []))
apart-front u n [] b more h = apart-one u n b more [] h
apart-front u n (x ∷ xs) b more h = apart-one u n x (xs ++ (b ∷ more)) (xs ++ (b ∷ [])) h

module _ (packing : Bool) where
  -- ---- a fault after a step

  -- the place is counted from `at`
  abbrev FaultFrom : ℕ → List ℕ → Refusal → ℕ → Type 0
  FaultFrom at text why place = (p : ℕ) × (place ≡ at + p) × Faulty packing text why p

  fault-at : {a b : List ℕ} {why : Refusal} {p q : ℕ} → a ≡ b → p ≡ q → Faulty packing a why p → Faulty packing b why q
  fault-at {b = b} {why} {p = p} e h f =
      subst (Faulty packing b why) h (subst (λ (x : List ℕ). Faulty packing x why p) e f)

  -- the fault of a text is that of the text with xs in front, where xs is a layout and the text does not go on with it
  module _ (xs text : List ℕ)
      (accepts : (front : List ℕ) → Accepted packing front → Accepted packing (xs ++ front))
      (back : (front : List ℕ) (c : ℕ) (more : List ℕ) → text ≡ front ++ (c ∷ more)
      → Formed (xs ++ (front ++ (c ∷ []))) → Formed (front ++ (c ∷ []))) where
    joined-text : (front rest : List ℕ) → text ≡ front ++ rest → (xs ++ front) ++ rest ≡ xs ++ text
    joined-text front rest e = append_assoc xs front rest ∙ ap (λ (x : List ℕ). xs ++ x) (sym e)

    fault-behind : {t : List ℕ} {why : Refusal} {p : ℕ} → Faulty packing t why p → text ≡ t
        → Faulty packing (xs ++ text) why (length xs + p)
    fault-behind (unknown {front = front} c more a h) e =
        fault-at (joined-text front (c ∷ more) e) (length-append xs front)
        (unknown c more (accepts front a) (λ q. h (back front c more e (rw append_assoc at q))))
    fault-behind (large {front = front} c u ds more a k d l) e =
        let n : ℕ = suc (length (flag u)) in
        let place : length (xs ++ front) + n ≡ length xs + (length front + n) = omega (arith, length-append xs front) in
        fault-at (joined-text front (c ∷ (flag u ++ (ds ++ more))) e) place (large c u ds more (accepts front a) k d l)
    fault-behind (misused {front = front} {bytes = bytes} more a w h m) e =
        fault-at (joined-text front (bytes ++ more) e) (length-append xs front) (misused more (accepts front a) w h m)

  accepts-space : (front : List ℕ) → Accepted packing front → Accepted packing (32 ∷ front)
  accepts-space front (fs, s) = (fs, record { form = spaced s.form; allowed = s.allowed })

  fault-spaced : (text : List ℕ) (why : Refusal) (p : ℕ) → Faulty packing text why p
      → Faulty packing (32 ∷ text) why (1 + p)
  fault-spaced text why p f =
      fault-behind (32 ∷ []) text accepts-space
      (λ front c more e q. (q.0, unspaced q.1 (front ++ (c ∷ [])) refl))
      f
      refl

  -- ---- a whole field in front

  record Lead (c : ℕ) (cs : List ℕ) (f : Field) (m : ℕ) : Type 0 where
    type : type_of c ≡ Some f.role
    found : Found cs f.unsigned f.count
    size : length (flag f.unsigned ++ found.count) ≡ m
    small : Small f.count
    good : Misused packing f.role f.count → ⊥

  module _ (c : ℕ) (cs : List ℕ) (f : Field) (m : ℕ) (l : Lead c cs f m) where
    abbrev own : List ℕ
    own = flag f.unsigned ++ l.found.count

    abbrev rest : List ℕ
    rest = l.found.rest

    together : (c ∷ own) ++ rest ≡ c ∷ cs
    together = ap (λ (x : List ℕ). c ∷ x) (sym l.found.parts)

    lead-rest : drop m cs ≡ rest
    lead-rest = ap (drop m) l.found.parts ∙ drop_at own rest m l.size

    spelled-on : (front : List ℕ) (fs : List Field) → Spelled packing fs front
        → Spelled packing (f ∷ fs) ((c ∷ own) ++ front)
    spelled-on front fs s =
        record {
          form = next (written l.type l.found.counts) s.form;
          allowed = (l.small, l.good, s.allowed);
        }

    lead-spelled : (fs : List Field) → Spelled packing fs rest → Spelled packing (f ∷ fs) (c ∷ cs)
    lead-spelled fs s = subst (Spelled packing (f ∷ fs)) together (spelled-on rest fs s)

    lead-back : (front : List ℕ) (b : ℕ) (more : List ℕ) → rest ≡ front ++ (b ∷ more)
        → Formed ((c ∷ own) ++ (front ++ (b ∷ []))) → Formed (front ++ (b ∷ []))
    lead-back front b more e q =
        let u : Bool = f.unsigned in
        let n : Count = f.count in
        let apart : Apart u n (front ++ (b ∷ more)) = subst (Apart u n) e l.found.apart in
        behind c f.role u l.type l.found.counts (front ++ (b ∷ [])) (apart-front u n front b more apart) q

    lead-fault : (why : Refusal) (p : ℕ) → Faulty packing rest why p → Faulty packing (c ∷ cs) why (suc m + p)
    lead-fault why p g =
        fault-at together (omega (arith, l.size))
        (fault-behind (c ∷ own) rest (λ front a. (f ∷ a.0, spelled-on front a.0 a.1)) lead-back g refl)

  -- ---- one step

  abbrev StepTold : ℕ → ℕ → List ℕ → Step → Type 0
  StepTold at c cs space = c ≡ 32
  StepTold at c cs (field f m) = Lead c cs f m
  StepTold at c cs (bad why place) = FaultFrom at (c ∷ cs) why place

  nothing-before : Accepted packing []
  nothing-before = ([], record { form = nothing; allowed = tt })

  module _ (at c : ℕ) (cs : List ℕ) where
    abbrev IsTold : Type 0
    IsTold = StepTold at c cs (step_of packing at c cs)

    told-unknown : (c ≡ 32 → ⊥) → type_of c ≡ None → IsTold
    told-unknown h e =
        rw (step-unknown packing at c cs h e)
        (0, sym (add-zero at), unknown c cs nothing-before (λ q. no-form c h e q.1 refl))

    module _ (k : Role) (e : type_of c ≡ Some k) where
      abbrev u : Bool
      u = flagged cs

      abbrev n : Count
      n = count_of (drop (to_nat u) cs)

      abbrev d : Found cs u n
      d = found cs

      abbrev size : ℕ
      size = length (flag u ++ d.count)

      scan : Scanned u n size cs
      scan = subst (Scanned u n size) (sym d.parts) (scanned d.counts u d.rest d.apart)

      ends : (rest : List ℕ) → Apart u n rest → Ends (c ∷ (flag u ++ d.count)) rest
      ends [] h = tt
      ends (b ∷ more) h = λ f w. no_longer c k u e d.counts b (apart-one u n b more [] h) f w

      told-large : (m : ℕ) → n ≡ Times m → max_count < m → IsTold
      told-large m h over =
          let g = digits_of d.counts m h in
          let parts : flag u ++ (d.count ++ d.rest) ≡ cs =
          sym (append_assoc (flag u) d.count d.rest) ∙ sym d.parts in
          let place : suc at + to_nat u ≡ at + (0 + suc (length (flag u))) = omega (arith, flag-length u) in
          let more : max_count < value d.count = omega (arith, g.1) in
          rw (step-large packing at c cs k e u n size scan (ap in_limit h ∙ lt-leb m max_count over)) (
            0 + suc (length (flag u)),
            place,
            fault-at (ap (λ (x : List ℕ). c ∷ x) parts) refl
                (large c u d.count d.rest nothing-before e g.0 more),
          )

      told-misused : Misused packing k n → IsTold
      told-misused h =
          rw (step-misused packing at c cs k e u n size scan h) (
            0,
            sym (add-zero at),
            fault-at (ap (λ (x : List ℕ). c ∷ x) (sym d.parts)) refl
                (misused d.rest nothing-before (written {u = u} e d.counts) (ends d.rest d.apart) h),
          )

      told-field : Small n → (Misused packing k n → ⊥) → IsTold
      told-field small good =
          rw (step_field packing at c cs k e u n size scan small good)
          (record { type = e; found = d; size = refl; small = small; good = good })

      told-known : IsTold
      told-known =
          ⊎_elim
          (λ small. ⊎_elim told-misused (λ g. told-field small (meant packing k n g)) (misused-or-not packing k n))
          (λ over. told-large over.0 over.1 over.2)
          (small-or-large n)

    told-step : IsTold
    told-step = by-space (eqb c 32) refl
      where
        by-type : (t : Option Role) → type_of c ≡ t → (c ≡ 32 → ⊥) → IsTold
        by-type (Some k) e h = told-known k e
        by-type None e h = told-unknown h e

        by-space : (t : Bool) → eqb c 32 ≡ t → IsTold
        by-space true e = rw (step-space packing at c cs (eqb-true c 32 e)) (eqb-true c 32 e)
        by-space false e = by-type (type_of c) refl (eqb-false c 32 e)

  -- ---- all of a text

  abbrev Told : ℕ → List ℕ → Result (List Field) → Type 0
  Told at text (ok fs) = Spelled packing fs text
  Told at text (refused why place) = FaultFrom at text why place

  told-before : (at c : ℕ) (cs : List ℕ) (s : Step) (r : Result (List Field)) → StepTold at c cs s
      → Told (suc at + step_extra s) (drop (step_extra s) cs) r → Told at (c ∷ cs) (step_then s r)
  told-before at c cs space (ok fs) e s =
      rw e (record { form = spaced s.form; allowed = s.allowed })
  told-before at c cs space (refused why place) e (p, h, g) = rw e (1 + p, omega arith, fault-spaced cs why p g)
  told-before at c cs (field f m) (ok fs) l s =
      lead-spelled c cs f m l fs (subst (Spelled packing fs) (lead-rest c cs f m l) s)
  told-before at c cs (field f m) (refused why place) l (p, h, g) =
      let on : Faulty packing l.found.rest why p = rw (lead-rest c cs f m l) at g in
      (suc m + p, omega arith, lead-fault c cs f m l why p on)
  told-before at c cs (bad why place) r h s = h

  told : (cs : List ℕ) (at n : ℕ) → Told (at + n) (drop n cs) (fields_from packing at n cs)
  unfolding fields_from
  told [] at n = rw drop-nil (record { form = nothing; allowed = tt })
  told (c ∷ cs) at (suc n) =
      subst (λ (i : ℕ). Told i (drop n cs) (fields_from packing (suc at) n cs)) (moved at n) (told cs (suc at) n)
  told (c ∷ cs) at zero =
      let s : Step = step_of packing at c cs in
      let r : Result (List Field) = fields_from packing (suc at) (step_extra s) cs in
      rw add-zero (told-before at c cs s r (told-step at c cs) (told cs (suc at) (step_extra s)))

  of-text : (text : List ℕ) → Told 0 text (fields_of packing text)
  unfolding fields_of
  of-text text = told text 0 0

  refused-faulty : (text : List ℕ) (why : Refusal) (place : ℕ) → fields_of packing text ≡ refused why place
      → Faulty packing text why place
  refused-faulty text why place e =
      let f : FaultFrom 0 text why place = rw e at (of-text text) in
      let same : f.0 ≡ place = omega (arith, f.1) in
      subst (Faulty packing text why) same f.2

-- ---- the claims

pub spellings : Spellings
unfolding Spellings
spellings packing text fs = (λ e. rw e at (of-text packing text), spelled-read packing text fs)

pub places : Places
unfolding Places
places packing text why place = (refused-faulty packing text why place, faulty-refused packing)

pub judged : Judged
unfolding Judged
judged packing text =
    record {
      either = go (fields_of packing text) refl;
      not-both = λ why place a f. no-refusal (sym (faulty-refused packing f) ∙ spelled-read packing text a.0 a.1);
      one-fault = λ why why' place place' f g.
          let e = faulty-refused packing f in
          let h = faulty-refused packing g in
          (cc, cc);
    }
  where
    go : (r : Result (List Field)) → fields_of packing text ≡ r
        → Accepted packing text ⊎ ((why : Refusal) × (place : ℕ) × Faulty packing text why place)
    go (ok fs) e = inl (fs, rw e at (of-text packing text))
    go (refused why place) e = inr (why, place, refused-faulty packing text why place e)
