-- One field, and what the layout reader makes of the bytes after its type character: it takes the flag and the count as
-- they are written wherever the next byte does not belong to them, and what it takes is a flag and a count.
use Rattle.std.specs.declared.option.Option.TheVariants.{Some, None}
use Rattle.std.specs.Prelude.{if◌then◌else◌}
use Prim.Native.Nat.{ℕ, suc, ◌+◌, ◌-◌, ◌*◌, ◌^◌, ◌/◌, ◌≤◌, ◌<◌}
use native.Mathlib.Nat.{pow-suc}
use native.Mathlib.Omega.{arith}
use mathlib.Core.Path.{◌≡◌, refl, sym, ap, ◌∙◌, subst}
use mathlib.Core.Bool.{Bool, true, false, ◌&&◌}
use mathlib.Core.List.{List, [], ◌∷◌, ◌++◌, append_assoc}
use borrow.Author.Tests.{leb-true, eqb-true, ne_eqb}
use lib.Dec.{eqb, leb}
use lib.ListN.{length, take, drop, take-append-drop}
use Rattle.layout.specs.declared.Role.{Role}
use Rattle.layout.specs.declared.Count.{Count}
use Rattle.layout.specs.declared.Count.TheVariants.{Absent, Star, Times}
use Rattle.layout.specs.Layout.{is_decimal, type_of, flagged, digit_run, decimal, count_of, count_length, to_nat}
use Rattle.layout.proofs.Letters.{no-letter}
use Rattle.layout.proofs.Steps.{is-decimal}
use Rattle.layout_claims.specs.Spelling.{Digit, Digits, value, flag, Counts, absent, star, number}

-- a premise that names two different constructors as one
pub never {ℓ} : {X : Type ℓ} → ◌≡◌ {A = ℕ} 0 1 → X
never e = absurd (omega arith)

-- ---- bytes

both : (a b : Bool) → (a && b) ≡ true → (a ≡ true) × (b ≡ true)
both true b e = (refl, e)
both false b e = never (cc)

pub digit : (d : ℕ) → is_decimal d ≡ true → Digit d
digit d e = let h = both (leb 48 d) (leb d 57) e in (leb-true 48 d h.0, leb-true d 57 h.1)

-- no flag, no star and no digit: every type character and the space
pub record Loose (c : ℕ) : Type 0 where
  pub no_flag : eqb c 117 ≡ false
  pub no-star : eqb c 42 ≡ false
  pub no_digit : is_decimal c ≡ false

pub not_known {ℓ} : {X : Type ℓ} (c : ℕ) (k : Role) → type_of c ≡ Some k → type_of c ≡ None → X
not_known c k e h = never (cc)

pub known-loose : (c : ℕ) (k : Role) → type_of c ≡ Some k → Loose c
unfolding type_of
known-loose c k e =
    record {
      no_flag = ne_eqb c 117 (λ h. not_known c k e (rw h));
      no-star = ne_eqb c 42 (λ h. not_known c k e (rw h));
      no_digit = stop (is_decimal c) refl;
    }
  where
    stop : (t : Bool) → is_decimal c ≡ t → t ≡ false
    stop true h = let d = digit c h in not_known c k e (no-letter c (λ (z : c / 64 ≡ 1). omega arith))
    stop false h = refl

-- ---- digits

abbrev NoDigit : List ℕ → Type 0
NoDigit [] = Unit {0}
NoDigit (c ∷ cs) = is_decimal c ≡ false

-- one digit more in front
shifted : (v e p w : ℕ) → (10 * v + e) * p + w ≡ v * (p * 10) + (e * p + w)
shifted v e p w = omega arith

-- the number so far, and digits after it
abbrev followed : ℕ → List ℕ → ℕ
followed v ds = v * 10 ^ length ds + value ds

decimal-digits : (ds rest : List ℕ) (v : ℕ) → Digits ds → decimal v (ds ++ rest) ≡ decimal (followed v ds) rest
unfolding decimal value
decimal-digits [] rest v h = ap (λ (n : ℕ). decimal n rest) (let e : v ≡ v * 10 ^ 0 + 0 = omega arith in e)
decimal-digits (d ∷ ds) rest v h =
    let e : followed (10 * v + (d - 48)) ds ≡ followed v (d ∷ ds) =
    rw (pow-suc 10 (length ds)) (shifted v (d - 48) (10 ^ length ds) (value ds)) in
    rw (is-decimal d h.0.0 h.0.1)
    (decimal-digits ds rest (10 * v + (d - 48)) h.1 ∙ ap (λ (n : ℕ). decimal n rest) e)

run-digits : (ds rest : List ℕ) → Digits ds → digit_run (ds ++ rest) ≡ length ds + digit_run rest
unfolding digit_run
run-digits [] rest h = omega arith
run-digits (d ∷ ds) rest h = rw (is-decimal d h.0.0 h.0.1) (ap suc (run-digits ds rest h.1) ∙ omega arith)

run-stops : (rest : List ℕ) → NoDigit rest → digit_run rest ≡ 0
unfolding digit_run
run-stops [] h = refl
run-stops (c ∷ cs) h = rw h

decimal-stops : (v : ℕ) (rest : List ℕ) → NoDigit rest → decimal v rest ≡ v
unfolding decimal
decimal-stops v [] h = refl
decimal-stops v (c ∷ cs) h = rw h

decimal-grows : (v : ℕ) (cs : List ℕ) → v ≤ decimal v cs
unfolding decimal
decimal-grows v [] = omega arith
decimal-grows v (c ∷ cs) = go (is_decimal c) (decimal-grows (10 * v + (c - 48)) cs)
  where
    go : (t : Bool) → 10 * v + (c - 48) ≤ decimal (10 * v + (c - 48)) cs
        → v ≤ (if t then decimal (10 * v + (c - 48)) cs else v)
    go true h = omega arith
    go false h = omega arith

-- the number of digits, before a byte that is none, and before anything
number_read : (ds rest : List ℕ) → Digits ds → NoDigit rest → decimal 0 (ds ++ rest) ≡ value ds
number_read ds rest h stop =
    let none : followed 0 ds ≡ value ds = omega arith in
    decimal-digits ds rest 0 h ∙ decimal-stops (followed 0 ds) rest stop ∙ none

number-at-least : (ds more : List ℕ) → Digits ds → value ds ≤ decimal 0 (ds ++ more)
number-at-least ds more h = omega (arith, decimal-digits ds more 0 h, decimal-grows (followed 0 ds) more)

-- ---- a count and a flag where they are written

abbrev NoStar : List ℕ → Type 0
NoStar [] = Unit {0}
NoStar (c ∷ cs) = eqb c 42 ≡ false

-- what stands after does not belong to a count, or to a field with this flag and count
abbrev AfterCount : Count → List ℕ → Type 0
AfterCount Absent rest = NoStar rest × NoDigit rest
AfterCount Star rest = Unit {0}
AfterCount (Times m) rest = NoDigit rest

pub record Apart (u : Bool) (n : Count) (rest : List ℕ) : Type 0 where
  pub count : AfterCount n rest
  pub flag : u ≡ false → n ≡ Absent → flagged rest ≡ false

pub apart-end : (u : Bool) (n : Count) → Apart u n []
unfolding flagged
apart-end u Absent = record { count = (tt, tt); flag = λ e h. refl }
apart-end u Star = record { count = tt; flag = λ e h. refl }
apart-end u (Times m) = record { count = tt; flag = λ e h. refl }

pub apart-loose : (u : Bool) (n : Count) (c : ℕ) (cs : List ℕ) → Loose c → Apart u n (c ∷ cs)
unfolding flagged
apart-loose u Absent c cs h = record { count = (h.no-star, h.no_digit); flag = λ e k. h.no_flag }
apart-loose u Star c cs h = record { count = tt; flag = λ e k. h.no_flag }
apart-loose u (Times m) c cs h = record { count = h.no_digit; flag = λ e k. h.no_flag }

abbrev CountRead : Count → List ℕ → List ℕ → Type 0
CountRead n count rest = (count_of (count ++ rest) ≡ n) × (count_length (count ++ rest) ≡ length count)

count-read : {n : Count} {count : List ℕ} → Counts n count → (rest : List ℕ) → AfterCount n rest
    → CountRead n count rest
unfolding count_of count_length
count-read absent [] h = (refl, refl)
count-read absent (c ∷ cs) h = rw (h.0, h.1) (refl, refl)
count-read star rest h = (refl, refl)
count-read (number {d = d} {ds = ds} k) rest h =
    let v : decimal 0 (d ∷ (ds ++ rest)) ≡ value (d ∷ ds) = number_read (d ∷ ds) rest k h in
    let l : digit_run (d ∷ (ds ++ rest)) ≡ suc (length ds) =
    run-digits (d ∷ ds) rest k ∙ (rw (run-stops rest h) (omega arith)) in
    let dec : is_decimal d ≡ true = is-decimal d k.0.0 k.0.1 in
    let w = rw dec at v in
    let m = rw dec at l in
    rw (ne_eqb d 42 (λ e. omega arith), dec) (ap Times w, m)

-- the reader finds this flag and this count in front of cs, in m bytes
pub record Scanned (u : Bool) (n : Count) (m : ℕ) (cs : List ℕ) : Type 0 where
  pub flag : flagged cs ≡ u
  pub count : count_of (drop (to_nat u) cs) ≡ n
  pub size : to_nat u + count_length (drop (to_nat u) cs) ≡ m

no_flag : {n : Count} {count : List ℕ} → Counts n count → (rest : List ℕ) → (n ≡ Absent → flagged rest ≡ false)
    → flagged (count ++ rest) ≡ false
unfolding flagged
no_flag absent rest h = h refl
no_flag star rest h = refl
no_flag (number {d = d} k) rest h = ne_eqb d 117 (λ e. omega arith)

scanned-parts : {n : Count} {count : List ℕ} → Counts n count → (u : Bool) (rest : List ℕ) → Apart u n rest
    → Scanned u n (length (flag u ++ count)) (flag u ++ (count ++ rest))
unfolding flagged
scanned-parts q true rest h =
    let r = count-read q rest h.count in
    record { flag = refl; count = r.0; size = omega arith }
scanned-parts q false rest h =
    let r = count-read q rest h.count in
    record { flag = no_flag q rest (h.flag refl); count = r.0; size = omega arith }

pub scanned : {n : Count} {count : List ℕ} → Counts n count → (u : Bool) (rest : List ℕ) → Apart u n rest
    → Scanned u n (length (flag u ++ count)) ((flag u ++ count) ++ rest)
scanned {count = count} q u rest h = rw (append_assoc (flag u) count rest) (scanned-parts q u rest h)

-- digits before anything: the number has at least their value
digits-counted : (d : ℕ) (cs : List ℕ) → Digit d → count_of (d ∷ cs) ≡ Times (decimal 0 (d ∷ cs))
unfolding count_of
digits-counted d cs h = rw (ne_eqb d 42 (λ e. omega arith), is-decimal d h.0 h.1)

digits-scanned : (u : Bool) (d : ℕ) (cs : List ℕ) → Digit d
    → Scanned u (Times (decimal 0 (d ∷ cs))) (to_nat u + count_length (d ∷ cs)) (flag u ++ (d ∷ cs))
unfolding flagged
digits-scanned true d cs h = record { flag = refl; count = digits-counted d cs h; size = refl }
digits-scanned false d cs h =
    record { flag = ne_eqb d 117 (λ e. omega arith); count = digits-counted d cs h; size = refl }

pub record AtLeast (u : Bool) (ds more : List ℕ) : Type 0 where
  pub times : ℕ
  pub size : ℕ
  pub least : value ds ≤ times
  pub scan : Scanned u (Times times) size (flag u ++ (ds ++ more))

pub at_least : (u : Bool) (ds more : List ℕ) → Digits ds → 0 < value ds → AtLeast u ds more
unfolding value
at_least u [] more h some = absurd (omega arith)
at_least u (d ∷ ds) more h some =
    record {
      times = _;
      size = _;
      least = number-at-least (d ∷ ds) more h;
      scan = digits-scanned u d (ds ++ more) h.0;
    }

-- ---- a count and a flag where they are found

abbrev DigitsFound : ℕ → List ℕ → Type 0
DigitsFound n cs = Digits (take n cs) × NoDigit (drop n cs)

digits-found : (cs : List ℕ) → DigitsFound (digit_run cs) cs
unfolding digit_run
digits-found [] = (tt, tt)
digits-found (c ∷ cs) = go (is_decimal c) refl (digits-found cs)
  where
    go : (t : Bool) → is_decimal c ≡ t → DigitsFound (digit_run cs) cs
        → DigitsFound (if t then suc (digit_run cs) else 0) (c ∷ cs)
    go true e h = ((digit c e, h.0), h.1)
    go false e h = (tt, e)

number-found : (cs : List ℕ) → value (take (digit_run cs) cs) ≡ decimal 0 cs
number-found cs =
    let n : ℕ = digit_run cs in
    let h = digits-found cs in
    sym (number_read (take n cs) (drop n cs) h.0 h.1) ∙ ap (decimal 0) (take-append-drop n cs)

number-on : (c : ℕ) (cs : List ℕ) → is_decimal c ≡ true → value (c ∷ take (digit_run cs) cs) ≡ decimal 0 (c ∷ cs)
unfolding digit_run
number-on c cs e = rw e at (number-found (c ∷ cs))

record CountFound (cs : List ℕ) (n : Count) (size : ℕ) : Type 0 where
  counts : Counts n (take size cs)
  stops : AfterCount n (drop size cs)
  none : n ≡ Absent → size ≡ 0

count-found : (cs : List ℕ) → CountFound cs (count_of cs) (count_length cs)
unfolding count_of count_length
count-found [] = record { counts = absent; stops = (tt, tt); none = λ e. refl }
count-found (c ∷ cs) = go (eqb c 42) (is_decimal c) refl refl
  where
    go : (s t : Bool) → eqb c 42 ≡ s → is_decimal c ≡ t
        → CountFound (c ∷ cs) (if s then Star else if t then Times (decimal 0 (c ∷ cs)) else Absent)
        (if s then 1 else if t then suc (digit_run cs) else 0)
    go true t e h =
        record {
          counts = subst (λ (x : ℕ). Counts Star (x ∷ [])) (sym (eqb-true c 42 e)) star;
          stops = tt;
          none = λ z. never (cc);
        }
    go false true e h =
        let k = digits-found cs in
        record {
          counts =
              subst (λ (m : ℕ). Counts (Times m) (c ∷ take (digit_run cs) cs)) (number-on c cs h)
              (number (digit c h, k.0));
          stops = k.1;
          none = λ z. never (cc);
        }
    go false false e h = record { counts = absent; stops = (e, h); none = λ z. refl }

-- the bytes after a type character: a flag or none, a count or none, and what does not belong to them
pub record Found (cs : List ℕ) (u : Bool) (n : Count) : Type 0 where
  pub count : List ℕ
  pub rest : List ℕ
  pub parts : cs ≡ (flag u ++ count) ++ rest
  pub counts : Counts n count
  pub apart : Apart u n rest

flag-found : (cs : List ℕ) → cs ≡ flag (flagged cs) ++ drop (to_nat (flagged cs)) cs
unfolding flagged
flag-found [] = refl
flag-found (c ∷ cs) = go (eqb c 117) refl
  where
    go : (t : Bool) → eqb c 117 ≡ t → c ∷ cs ≡ flag t ++ drop (to_nat t) (c ∷ cs)
    go true e = ap (λ (x : ℕ). x ∷ cs) (eqb-true c 117 e)
    go false e = refl

pub found : (cs : List ℕ) → Found cs (flagged cs) (count_of (drop (to_nat (flagged cs)) cs))
found cs =
    let u : Bool = flagged cs in
    let more : List ℕ = drop (to_nat u) cs in
    let n : ℕ = count_length more in
    let h = count-found more in
    let split : flag u ++ more ≡ flag u ++ (take n more ++ drop n more) =
    ap (λ (x : List ℕ). flag u ++ x) (sym (take-append-drop n more)) in
    record {
      count = take n more;
      rest = drop n more;
      parts = flag-found cs ∙ split ∙ sym (append_assoc (flag u) (take n more) (drop n more));
      counts = h.counts;
      apart = record { count = h.stops; flag = λ e k. rw (h.none k, e) e };
    }
