-- The layout reader takes the text of sound items apart into their fields: after each letter stand its flag and its
-- count, and then a byte that belongs to neither.
use Rattle.std.specs.declared.option.Option.TheVariants.{Some}
use Rattle.std.specs.Prelude.{if◌then◌else◌}
use Prim.Native.Nat.{ℕ, suc, ◌+◌, ◌-◌, ◌*◌, ◌≤◌}
use native.Mathlib.Nat.{add-zero}
use native.Mathlib.Omega.{arith}
use mathlib.Core.Path.{◌≡◌, refl, ap, ◌∙◌}
use mathlib.Core.Bool.{Bool, true, false, ◌&&◌, not}
use mathlib.Core.List.{List, [], ◌∷◌, ◌++◌, map, append_assoc}
use borrow.Author.Tests.{le-leb, ne_eqb}
use lib.Dec.{eqb, ltb, leb}
use lib.ListN.{length, take, drop, length-append}
use Rattle.layout.specs.declared.Role.{Role}
use Rattle.layout.specs.declared.Role.TheVariants.{Data, Move}
use Rattle.layout.specs.declared.Motion.TheVariants.{Skip}
use Rattle.layout.specs.declared.Shape.{Shape}
use Rattle.layout.specs.declared.Shape.TheVariants.{Text, Digits, Integers}
use Rattle.layout.specs.declared.Count.TheVariants.{Times}
use Rattle.layout.specs.declared.Field.{Field}
use Rattle.layout.specs.Refusals.{Result, ok, ◌>>=◌}
use Rattle.layout.specs.Layout.{max_count, is_decimal, type_of, takes_slot, to_nat, flagged, digit_run, decimal, count_of, count_length, in_limit, has_meaning, field, step_from, field_after, field_at, step_of, step_extra, step_then, fields_from, slot_count}
use Rattle.perl.specs.declared.tokens.Letter.{Letter}
use Rattle.std.specs.declared.option.Option.{Option}
use Rattle.std.specs.declared.option.Option.TheVariants.{Some, None}
use Rattle.perl.specs.Tokens.{max_template_count, continues, with_digit, number_in, digits_in, letter_of}
use Rattle.perl.specs.Template.{Single}
use Rattle.perl.specs.Writing.{flag_text, text_of}
use Rattle.perl_claims.specs.Spelling.{Digits as Numerals}
use Rattle.perl_claims.specs.Claim.{count_for, field_for, valued}
use Rattle.perl.proofs.tokens.Numbers.{number-limit}

-- ---- our letters

-- what the layout reader makes of the letter b, whether the flag follows or not
pub record Ours (b : ℕ) : Type 0 where
  pub role : Role
  pub type : type_of b ≡ Some role
  pub meaning : (packing : Bool) (ds : List ℕ) → has_meaning packing role (count_for ds) ≡ true
  pub no-space : eqb b 32 ≡ false
  pub no_digit : is_decimal b ≡ false
  pub no-star : eqb b 42 ≡ false
  pub no_flag : eqb b 117 ≡ false
  pub slot : takes_slot role ≡ not (eqb b 120)

abbrev pub OurLetter : Option Letter → Type 0
OurLetter (Some l) = Ours l.byte
OurLetter None = Unit {0}

skip-meaning : (packing : Bool) (ds : List ℕ) → has_meaning packing (Move Skip) (count_for ds) ≡ true
unfolding count_for
skip-meaning packing [] = refl
skip-meaning packing (d ∷ ds) = refl

value : (b : ℕ) (s : Shape) → type_of b ≡ Some (Data s) → eqb b 32 ≡ false → is_decimal b ≡ false → eqb b 42 ≡ false → eqb b 117 ≡ false → eqb b 120 ≡ false → Ours b
value b s t a d r g x = record { role = Data s; type = t; meaning = λ packing ds. refl; no-space = a; no_digit = d; no-star = r; no_flag = g; slot = rw x }

chosen : (t : Bool) (a b : Option Letter) → OurLetter a → OurLetter b → OurLetter (if t then a else b)
chosen true a b h k = h
chosen false a b h k = k

pub our-letter : (c : ℕ) → OurLetter (letter_of c)
unfolding letter_of type_of
our-letter c =
    chosen (eqb c 97) _ _ (value 97 (Text 0) refl refl refl refl refl refl)
    (chosen (eqb c 98) _ _ (value 98 (Digits false false) refl refl refl refl refl refl)
    (chosen (eqb c 66) _ _ (value 66 (Digits false true) refl refl refl refl refl refl)
    (chosen (eqb c 104) _ _ (value 104 (Digits true false) refl refl refl refl refl refl)
    (chosen (eqb c 72) _ _ (value 72 (Digits true true) refl refl refl refl refl refl)
    (chosen (eqb c 120) _ _ (record { role = Move Skip; type = refl; meaning = skip-meaning; no-space = refl; no_digit = refl; no-star = refl; no_flag = refl; slot = refl })
    (chosen (eqb c 67) _ _ (value 99 (Integers 1 false) refl refl refl refl refl refl)
    (chosen (eqb c 110) _ _ (value 83 (Integers 2 true) refl refl refl refl refl refl)
    (chosen (eqb c 78) _ _ (value 73 (Integers 4 true) refl refl refl refl refl refl)
    (chosen (eqb c 118) _ _ (value 115 (Integers 2 false) refl refl refl refl refl refl)
    (chosen (eqb c 86) _ _ (value 105 (Integers 4 false) refl refl refl refl refl refl) tt))))))))))

-- ---- a count's digits

pub record Counts (ds : List ℕ) : Type 0 where
  pub digits : Numerals ds
  pub limit : decimal 0 ds ≤ max_template_count

pub count-digits : (limit v : ℕ) (cs : List ℕ) → Numerals (take (digits_in limit v cs) cs) × (decimal v (take (digits_in limit v cs) cs) ≡ number_in limit v cs)
unfolding digits_in number_in decimal continues
count-digits limit v [] = (tt, refl)
count-digits limit v (c ∷ cs) = step (is_decimal c) refl (ltb 0 (with_digit v c)) (leb (with_digit v c) limit) (count-digits limit (with_digit v c) cs)
  where
    step : (d : Bool) → is_decimal c ≡ d → (z t : Bool) → Numerals (take (digits_in limit (with_digit v c) cs) cs)
        × (decimal (with_digit v c) (take (digits_in limit (with_digit v c) cs) cs) ≡ number_in limit (with_digit v c) cs)
        → Numerals (take (if d && z && t then suc (digits_in limit (with_digit v c) cs) else 0) (c ∷ cs))
        × (decimal v (take (if d && z && t then suc (digits_in limit (with_digit v c) cs) else 0) (c ∷ cs)) ≡ (if d
        && z && t then number_in limit (with_digit v c) cs else v))
    step false e z t h = (tt, refl)
    step true e false t h = (tt, refl)
    step true e true false h = (tt, refl)
    step true e true true h = ((e, h.0), rw e h.1)

pub counts : (cs : List ℕ) → Counts (take (digits_in max_template_count 0 cs) cs)
counts cs =
    let k = count-digits max_template_count 0 cs in
    record { digits = k.0; limit = rw k.1 (number-limit max_template_count 0 cs (omega arith)) }

-- ---- what follows an item: nothing, or a byte that belongs to neither flag nor count

abbrev Stops : List ℕ → Type 0
Stops [] = Unit {0}
Stops (c ∷ cs) = (is_decimal c ≡ false) × (eqb c 42 ≡ false) × (eqb c 117 ≡ false)

run-stops : (ds rest : List ℕ) → Numerals ds → Stops rest → digit_run (ds ++ rest) ≡ length ds
unfolding digit_run
run-stops [] [] h k = refl
run-stops [] (c ∷ cs) h k = rw k.0
run-stops (d ∷ ds) rest h k = rw (h.0, run-stops ds rest h.1 k)

decimal-stops : (v : ℕ) (ds rest : List ℕ) → Numerals ds → Stops rest → decimal v (ds ++ rest) ≡ decimal v ds
unfolding decimal
decimal-stops v [] [] h k = refl
decimal-stops v [] (c ∷ cs) h k = rw k.0
decimal-stops v (d ∷ ds) rest h k = rw h.0 (decimal-stops (10 * v + (d - 48)) ds rest h.1 k)

not_digit : (d c : ℕ) → is_decimal c ≡ false → is_decimal d ≡ true → eqb d c ≡ false
not_digit d c h e = ne_eqb d c (λ z. let f : is_decimal c ≡ true = rw z at e in let w : ◌≡◌ {A = ℕ} 0 1 = cc in omega arith)

count-stops : (ds rest : List ℕ) → Numerals ds → Stops rest → (count_of (ds ++ rest) ≡ count_for ds) × (count_length (ds ++ rest) ≡ length ds)
unfolding count_of count_length count_for
count-stops [] [] h k = (refl, refl)
count-stops [] (c ∷ cs) h k = rw (k.1, k.0) (refl, refl)
count-stops (d ∷ ds) rest h k =
    rw (not_digit d 42 refl h.0, h.0) (ap Times (decimal-stops (10 * 0 + (d - 48)) ds rest h.1 k), ap suc (run-stops ds rest h.1 k))

count-limit : (ds : List ℕ) → decimal 0 ds ≤ max_template_count → in_limit (count_for ds) ≡ true
unfolding count_for
count-limit [] h = refl
count-limit (d ∷ ds) h = le-leb (decimal 0 (d ∷ ds)) max_count (omega arith)

-- ---- one item in front of what follows

flag-stops : (u : Bool) (ds rest : List ℕ) → Numerals ds → Stops rest → (flagged (flag_text u ++ (ds ++ rest)) ≡ u) × (drop (to_nat u) (flag_text u ++ (ds ++ rest)) ≡ ds ++ rest)
unfolding flagged
flag-stops true ds rest h s = (refl, refl)
flag-stops false [] [] h s = (refl, refl)
flag-stops false [] (c ∷ cs) h s = (s.2, refl)
flag-stops false (d ∷ ds) rest h s = (not_digit d 117 refl h.0, refl)

pub record SoundSingle (s : Single) : Type 0 where
  pub ours : Ours s.letter
  pub count : Counts s.count

module _ (packing : Bool) (at : ℕ) (s : Single) (h : SoundSingle s) (rest : List ℕ) (stops : Stops rest) where
  abbrev tail : List ℕ
  tail = flag_text s.unsigned ++ (s.count ++ rest)

  after-letter : field_after packing at h.ours.role tail ≡ ok (field_for s, to_nat s.unsigned + length s.count)
  unfolding field_after field_for
  after-letter =
      let f = flag-stops s.unsigned s.count rest h.count.digits stops in
      let n = count-stops s.count rest h.count.digits stops in
      rw (f.0, f.1, n.0, n.1, count-limit s.count h.count.limit, h.ours.meaning packing s.count, h.ours.type)

  at-letter : step_of packing at s.letter tail ≡ field (field_for s) (to_nat s.unsigned + length s.count)
  unfolding step_of field_at
  at-letter = rw (h.ours.no-space, h.ours.type, field_at) (ap step_from after-letter)

-- ---- all items

abbrev pub Every : (Single → Type 0) → List Single → Type 0
Every P [] = Unit {0}
Every P (s ∷ ss) = P s × Every P ss

-- the bytes after a letter belong to its field
skip : (packing : Bool) (at : ℕ) (m rest : List ℕ) → fields_from packing at (length m) (m ++ rest) ≡ fields_from packing (at + length m) 0 rest
unfolding fields_from
skip packing at [] rest = rw add-zero
skip packing at (c ∷ m) rest = skip packing (suc at) m rest ∙ ap (λ (i : ℕ). fields_from packing i 0 rest) (let e : suc at + length m ≡ at + suc (length m) = omega arith in e)

stops_at : (ss : List Single) → Every SoundSingle ss → Stops (text_of ss)
unfolding text_of
stops_at [] h = tt
stops_at (s ∷ ss) h = (h.0.ours.no_digit, h.0.ours.no-star, h.0.ours.no_flag)

pub text-fields : (packing : Bool) (ss : List Single) (at : ℕ) → Every SoundSingle ss → fields_from packing at 0 (text_of ss) ≡ ok (map field_for ss)
unfolding text_of fields_from
text-fields packing [] at h = refl
text-fields packing (s ∷ ss) at h =
    let m : List ℕ = flag_text s.unsigned ++ s.count in
    let cs : List ℕ = m ++ text_of ss in
    let tail : cs ≡ flag_text s.unsigned ++ (s.count ++ text_of ss) = append_assoc (flag_text s.unsigned) s.count (text_of ss) in
    let long : to_nat s.unsigned + length s.count ≡ length m = rw length-append (flag-length s.unsigned) in
    let step : step_of packing at s.letter cs ≡ field (field_for s) (length m) = rw (tail, ← long) (at-letter packing at s h.0 (text_of ss) (stops_at ss h.1)) in
    ap (λ st. step_then st (fields_from packing (suc at) (step_extra st) cs)) step
    ∙ ap (λ (r : Result (List Field)). r >>= (λ fs. ok (field_for s ∷ fs))) (skip packing (suc at) m (text_of ss) ∙ text-fields packing ss (suc at + length m) h.1)
  where
    flag-length : (u : Bool) → to_nat u + length s.count ≡ length (flag_text u) + length s.count
    flag-length true = refl
    flag-length false = refl

pub slots-valued : (ss : List Single) → Every SoundSingle ss → slot_count (map field_for ss) ≡ valued ss
unfolding slot_count valued field_for
slots-valued [] h = refl
slots-valued (s ∷ ss) h = rw (h.0.ours.type, h.0.ours.slot, slots-valued ss h.1) (turned (eqb s.letter 120))
  where
    turned : (t : Bool) → (if not t then suc (valued ss) else valued ss) ≡ (if t then valued ss else suc (valued ss))
    turned true = refl
    turned false = refl
