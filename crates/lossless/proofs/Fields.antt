-- A field's bytes, read and stored again: `stored` of `loaded` is those bytes, and what was loaded serves the field.
use Rattle.std.specs.Prelude.{if◌then◌else◌}
use Prim.Native.Nat.{ℕ, zero, suc, ◌+◌, ◌-◌, ◌*◌, ◌/◌, ◌%◌, ◌^◌, ◌≤◌, ◌<◌}
use native.Mathlib.Nat.{suc-mul, mod-eq_of_lt, lt_of_lt_of_le}
use native.Mathlib.Omega.{arith}
use mathlib.Core.Path.{◌≡◌, refl, sym, ap, ap₂, ◌∙◌}
use mathlib.Core.Bool.{Bool, true, false, ◌&&◌, not, and-false}
use mathlib.Core.List.{List, [], ◌∷◌, map, append-nil}
use lib.ListN.{length, take, drop, replicate, length-map, length-drop}
use lib.Seq.{take_all, take_at, length-take-le}
use borrow.Author.Tests.{lt-leb, le-leb, lt-ltb, le-ltb, eq-eqb}
use lib.Dec.{T, leb, eqb, eqb→eq}
use Rattle.layout.specs.declared.Role.TheVariants.{Data}
use Rattle.layout.specs.declared.Shape.{Shape}
use Rattle.layout.specs.declared.Shape.TheVariants.{Text, Digits, Integers, Reals}
use Rattle.layout.specs.declared.Count.{Count}
use Rattle.layout.specs.declared.Count.TheVariants.{Absent, Star, Times}
use Rattle.layout.specs.Refusals.{ok}
use Rattle.layout.specs.inside.Parsing.{FitRole}
use Rattle.record.specs.Bytes.{fit, ceil_div, pieces, join, digits, number, ordered}
use Rattle.record.specs.declared.slots.Slot.{Slot}
use Rattle.record.specs.Table.{max_kind, integer_size, Value, integer_bytes, area_bytes, shown}
use Rattle.record.specs.Geometry.{amount, base, per_byte, bytes_for}
use Rattle.record.specs.Packing.{stored, low_bytes, digit_bytes, digit_value, all_digits, kind_fits, enough, amount_fits, digits_fit, reals_fit, argument_fits}
use Rattle.record.specs.inside.Slots.{inside_area}
use Rattle.record.specs.Reading.{loaded, widened, digit_char}
use Rattle.record.proofs.Fields.{split, item}
use Rattle.record.proofs.Bytes.{All, all_take, all_drop, all_append, all-ordered, length_digits, digits-below, length-ordered, ordered-ordered, number_digits, length-join, pieces-join, length-pieces, join-pieces}
use Rattle.record.proofs.Widening.{filler, widened-digits, number-below}
use Rattle.record.proofs.NumberLaws.{length-big_endian}
use Rattle.runs.specs.Ends.{plain_count}
use Rattle.runs.proofs.Shown.{Proper, widened-fits, true-false}
use Rattle.runs.proofs.Calls.{T→true}
use Rattle.lossless.specs.Claim.{shows_all}

abbrev pub Byte : ℕ → Type 0
Byte b = b < 256

-- a run that has just the length asked for is not cut or padded
fit_all : (n pad : ℕ) (xs : List ℕ) → length xs ≡ n → fit n pad xs ≡ xs
unfolding fit
fit_all n pad xs h =
    let z : n - length xs ≡ 0 = omega arith in
    rw (z, append-nil) (take_all n xs (omega arith))

-- ---- integers

take-digits : (b w k n : ℕ) → w ≤ k → take w (digits b k n) ≡ digits b w n
unfolding digits
take-digits b zero k n h = refl
take-digits b (suc w) zero n h = absurd (omega arith)
take-digits b (suc w) (suc k) n h = ap (λ (r : List ℕ). n % b ∷ r) (take-digits b w k (n / b) (omega arith))

item-again : (w : ℕ) (big u : Bool) (p : List ℕ) → length p ≡ w → w ≤ 8 → All Byte p → item w big (widened w u (number 256 (ordered big p))) ≡ p
unfolding item
item-again w big u p len small all =
    let ds : List ℕ = ordered big p in
    let long : length ds ≡ w = length-ordered big p ∙ len in
    let low : digits 256 w (widened w u (number 256 ds)) ≡ ds =
    sym (take-digits 256 w 8 (widened w u (number 256 ds)) small)
    ∙ ap (take w) (widened-digits w u ds long small (all-ordered Byte big p all))
    ∙ take_at ds (replicate (8 - w) (filler w u ds)) w long in
    ap (ordered big) low ∙ ordered-ordered big p

items-again : (w : ℕ) (big u : Bool) (n : ℕ) (bs : List ℕ) → length bs ≡ n * w → w ≤ 8 → All Byte bs
    → map (item w big) (map (λ p. widened w u (number 256 (ordered big p))) (pieces w n bs)) ≡ pieces w n bs
unfolding pieces
items-again w big u zero bs len small all = refl
items-again w big u (suc n) bs len small all =
    let len' : length bs ≡ n * w + w = len ∙ suc-mul n w in
    ap₂ (λ (a : List ℕ) (r : List (List ℕ)). a ∷ r)
    (item-again w big u (take w bs) (length-take-le w bs (omega arith)) small (all_take Byte w bs all))
    (items-again w big u n (drop w bs) (length-drop w bs ∙ (omega arith)) small (all_drop Byte w bs all))

integers-again : (w : ℕ) (big u : Bool) (n : ℕ) (bs : List ℕ) → length bs ≡ n * w → w ≤ 8 → All Byte bs
    → low_bytes w big n (map (λ p. widened w u (number 256 (ordered big p))) (pieces w n bs)) ≡ bs
unfolding low_bytes item
integers-again w big u n bs len small all =
    let xs : List ℕ = map (λ p. widened w u (number 256 (ordered big p))) (pieces w n bs) in
    let long : length xs ≡ n = length-map (pieces w n bs) _ ∙ length-pieces w n bs in
    ap (λ (r : List ℕ). join (map (item w big) r)) (take_all n xs (omega arith))
    ∙ ap join (items-again w big u n bs len small all)
    ∙ join-pieces w n bs len

-- ---- digits

-- the value of a digit's character is the digit
value-char : (d : ℕ) → d < 16 → digit_value (digit_char d) ≡ d
unfolding digit_value digit_char
value-char d h =
    split 10 d
    (λ (k : 10 ≤ d). rw (le-ltb d 10 k) (simp (
      lt-leb (d + 87) 57 (omega arith),
      lt-leb (d + 87) 70 (omega arith),
      le-leb 97 (d + 87) (omega arith),
      le-leb (d + 87) 102 (omega arith),
      and-false,
    ) (omega arith)))
    (λ (k : d < 10). rw (lt-ltb d 10 k) (simp (le-leb 48 (d + 48) (omega arith), le-leb (d + 48) 57 (omega arith)) (omega arith)))

abbrev Below : Bool → ℕ → Type 0
Below hex d = d < base hex

base-small : (hex : Bool) → base hex ≤ 16
base-small true = omega arith
base-small false = omega arith

values-chars : (hex : Bool) (ds : List ℕ) → All (Below hex) ds → map digit_value (map digit_char ds) ≡ ds
values-chars hex [] h = refl
values-chars hex (d ∷ ds) h = ap₂ (λ (a : ℕ) (r : List ℕ). a ∷ r) (value-char d (lt_of_lt_of_le h.0 (base-small hex))) (values-chars hex ds h.1)

are-digits : (hex : Bool) (ds : List ℕ) → All (Below hex) ds → T (all_digits hex (map digit_char ds))
unfolding all_digits
are-digits hex [] h = tt
are-digits hex (d ∷ ds) h =
    rw (value-char d (lt_of_lt_of_le h.0 (base-small hex)), lt-ltb d (base hex) h.0) (are-digits hex ds h.1)

-- the digits of one byte
abbrev digits_in : Bool → Bool → ℕ → List ℕ
digits_in hex high b = ordered high (digits (base hex) (per_byte hex) b)

length-in : (hex high : Bool) (b : ℕ) → length (digits_in hex high b) ≡ per_byte hex
length-in hex high b = length-ordered high (digits (base hex) (per_byte hex) b) ∙ length_digits (base hex) (per_byte hex) b

base-pos : (hex : Bool) → 0 < base hex
base-pos true = omega arith
base-pos false = omega arith

base-power : (hex : Bool) → base hex ^ per_byte hex ≡ 256
base-power true = refl
base-power false = refl

all_join : (hex high : Bool) (bs : List ℕ) → All (Below hex) (join (map (digits_in hex high) bs))
unfolding join
all_join hex high [] = tt
all_join hex high (b ∷ bs) =
    all_append (Below hex) (digits_in hex high b) (join (map (digits_in hex high) bs))
    (all-ordered (Below hex) high (digits (base hex) (per_byte hex) b) (digits-below (base hex) (per_byte hex) b (base-pos hex))) (all_join hex high bs)

byte-again : (hex high : Bool) (b : ℕ) → Byte b → number (base hex) (ordered high (digits_in hex high b)) ≡ b
byte-again hex high b h =
    ap (number (base hex)) (ordered-ordered high (digits (base hex) (per_byte hex) b))
    ∙ number_digits (base hex) (per_byte hex) b (base-pos hex)
    ∙ rw (base-power hex) (mod-eq_of_lt h)

bytes-again : (hex high : Bool) (bs : List ℕ) → All Byte bs → map (λ p. number (base hex) (ordered high p)) (map (digits_in hex high) bs) ≡ bs
bytes-again hex high [] h = refl
bytes-again hex high (b ∷ bs) h = ap₂ (λ (a : ℕ) (r : List ℕ). a ∷ r) (byte-again hex high b h.0) (bytes-again hex high bs h.1)

-- n digits fill n / per_byte bytes, and none is spare
whole-digits : (hex high : Bool) (n : ℕ) → T (shows_all (Digits hex high) n) → ceil_div n (per_byte hex) * per_byte hex ≡ n
whole-digits true high n h = omega (arith, eqb→eq (n % 2) 0 h)
whole-digits false high n h = omega (arith, eqb→eq (n % 8) 0 h)

module _ (hex high : Bool) (n : ℕ) (bs : List ℕ) (whole : T (shows_all (Digits hex high) n)) (len : length bs ≡ ceil_div n (per_byte hex)) where
  chars : List ℕ
  chars = map digit_char (join (map (digits_in hex high) bs))

  length-chars : length chars ≡ n
  unfolding chars
  length-chars =
      length-map (join (map (digits_in hex high) bs)) digit_char
      ∙ length-join (digits_in hex high) (per_byte hex) (length-in hex high) bs ∙ ap (λ (m : ℕ). m * per_byte hex) len ∙ whole-digits hex high n whole

  all-chars : take n chars ≡ chars
  all-chars = take_all n chars (omega (arith, length-chars))

  digits-again : All Byte bs → digit_bytes hex high n (take n chars) ≡ bs
  unfolding digit_bytes chars
  digits-again all =
      let k : ℕ = per_byte hex in
      let m : ℕ = ceil_div n k in
      let ds : List ℕ = join (map (digits_in hex high) bs) in
      let cut : map digit_value (fit (m * k) 48 (take n (take n chars))) ≡ ds =
      ap (λ (r : List ℕ). map digit_value (fit (m * k) 48 (take n r))) all-chars
      ∙ ap (λ (r : List ℕ). map digit_value (fit (m * k) 48 r)) all-chars
      ∙ ap (map digit_value) (fit_all (m * k) 48 chars (length-chars ∙ sym (whole-digits hex high n whole)))
      ∙ values-chars hex ds (all_join hex high bs) in
      ap (λ (r : List ℕ). map (λ p. number (base hex) (ordered high p)) (pieces k m r)) cut
      ∙ ap (λ (i : ℕ). map (λ p. number (base hex) (ordered high p)) (pieces k i ds)) (sym len)
      ∙ ap (map (λ p. number (base hex) (ordered high p))) (pieces-join (digits_in hex high) k (length-in hex high) bs)
      ∙ bytes-again hex high bs all

  served-digits : T (all_digits hex (take n (take n chars)))
  unfolding chars
  served-digits = rw (all-chars, all-chars) (are-digits hex (join (map (digits_in hex high) bs)) (all_join hex high bs))

-- ---- every form

pub again : (s : Shape) (u : Bool) (n : ℕ) (bs : List ℕ) → T (shows_all s n) → FitRole (Data s) → length bs ≡ bytes_for s n → All Byte bs
    → stored s n (loaded s u n bs).items ≡ bs
unfolding stored loaded widened chars
again (Text pad) u n bs h k len all = rw (eqb→eq pad 0 h) (fit_all n 0 bs len)
again (Digits hex high) u n bs h k len all = digits-again hex high n bs h len all
again (Integers w big) u n bs h k len all = integers-again w big u n bs len k.1 all
again (Reals true big) u n bs h k len all = absurd h
again (Reals false big) u n bs h k len all = integers-again 8 big true n bs len (omega arith) all

pub length-items : (s : Shape) (u : Bool) (n : ℕ) (bs : List ℕ) → T (shows_all s n) → length bs ≡ bytes_for s n → length (loaded s u n bs).items ≡ n
unfolding loaded chars
length-items (Text pad) u n bs h len = rw (eqb→eq pad 0 h) len
length-items (Digits hex high) u n bs h len = ap length (all-chars hex high n bs h len) ∙ length-chars hex high n bs h len
length-items (Integers w big) u n bs h len = length-map (pieces w n bs) _ ∙ length-pieces w n bs
length-items (Reals true big) u n bs h len = absurd h
length-items (Reals false big) u n bs h len = length-map (pieces 8 n bs) _ ∙ length-pieces 8 n bs

-- integers fit eight bytes
integers-proper : (w : ℕ) (big u : Bool) (n : ℕ) (bs : List ℕ) → length bs ≡ n * w → w ≤ 8 → All Byte bs
    → All (λ x. x < 2 ^ 64) (map (λ p. widened w u (number 256 (ordered big p))) (pieces w n bs))
unfolding pieces
integers-proper w big u zero bs len small all = tt
integers-proper w big u (suc n) bs len small all =
    let len' : length bs ≡ n * w + w = len ∙ suc-mul n w in
    let p : List ℕ = ordered big (take w bs) in
    let long : length p ≡ w = length-ordered big (take w bs) ∙ length-take-le w bs (omega arith) in
    let low : number 256 p < 256 ^ w = rw long at (number-below 256 p (all-ordered Byte big (take w bs) (all_take Byte w bs all))) in
    (rw (mod-eq_of_lt low) at (widened-fits w u (number 256 p) small), integers-proper w big u n (drop w bs) (length-drop w bs ∙ (omega arith)) small (all_drop Byte w bs all))

pub loaded-proper : (s : Shape) (u : Bool) (n : ℕ) (bs : List ℕ) → T (shows_all s n) → FitRole (Data s) → length bs ≡ bytes_for s n → All Byte bs → Proper (loaded s u n bs)
unfolding loaded widened
loaded-proper (Text pad) u n bs h k len all e = true-false e
loaded-proper (Digits hex high) u n bs h k len all e = true-false e
loaded-proper (Integers w big) u n bs h k len all e = integers-proper w big u n bs len k.1 all
loaded-proper (Reals true big) u n bs h k len all e = absurd h
loaded-proper (Reals false big) u n bs h k len all e = integers-proper 8 big true n bs len (omega arith) all

-- ---- what was loaded serves its field

length-integers : (xs : List ℕ) → length (integer_bytes xs) ≡ length xs * integer_size
length-integers xs = length-big_endian integer_size xs

enough-all : (n : Count) (have : ℕ) → T (plain_count n) → have ≡ amount n 0 → enough n have ≡ true
enough-all Absent have h e = eq-eqb have 1 e
enough-all Star have h e = absurd h
enough-all (Times n) have h e = le-leb n have (omega arith)

passes : (area : List ℕ) (s : Shape) (n : Count) (i : ℕ) (a : Slot) → not (eqb a.kind 0) ≡ true → (leb a.kind max_kind && inside_area area a) ≡ true → kind_fits s a.kind ≡ true
    → amount_fits s n a.len ≡ true → digits_fit s (amount n a.len) (shown area a).items ≡ true → reals_fit s (amount n a.len) (shown area a).items ≡ true → argument_fits area s n i a ≡ ok tt
unfolding argument_fits
passes area s n i a set inside kind count digit real = rw (set, inside, kind, count, digit, real)

module _ (area : List ℕ) (start position i : ℕ) (n : Count) (plain : T (plain_count n)) (same : (all : ℕ) → amount n all ≡ amount n 0) where
  abbrev slot_for : Value → Slot
  slot_for v = record { kind = v.kind; start = start; len = length v.items; position = position }

  inside : (v : Value) → start + length (area_bytes v) ≤ length area → inside_area area (slot_for v) ≡ true
  unfolding area_bytes
  inside v h = le-leb _ _ (by_kind (eqb v.kind 1) h)
    where
      by_kind : (t : Bool) → start + length (if t then v.items else integer_bytes v.items) ≤ length area → start + length v.items * (if t then 1 else integer_size) ≤ length area
      by_kind true h = omega arith
      by_kind false h = omega (arith, length-integers v.items)

  pub serves : (s : Shape) (u : Bool) (bs : List ℕ) → T (shows_all s (amount n 0)) → length bs ≡ bytes_for s (amount n 0)
      → start + length (area_bytes (loaded s u (amount n 0) bs)) ≤ length area
      → shown area (slot_for (loaded s u (amount n 0) bs)) ≡ loaded s u (amount n 0) bs
      → argument_fits area s n i (slot_for (loaded s u (amount n 0) bs)) ≡ ok tt
  unfolding loaded digits_fit reals_fit chars
  serves (Text pad) u bs h len room e = passes area (Text pad) n i (slot_for (loaded (Text pad) u (amount n 0) bs)) refl (inside (loaded (Text pad) u (amount n 0) bs) room) refl refl refl refl
  serves (Digits hex high) u bs h len room e =
      passes area (Digits hex high) n i (slot_for (loaded (Digits hex high) u (amount n 0) bs)) refl (inside (loaded (Digits hex high) u (amount n 0) bs) room) refl refl
      (rw (e, same (length (loaded (Digits hex high) u (amount n 0) bs).items)) (T→true _ (served-digits hex high (amount n 0) bs h len))) refl
  serves (Integers w big) true bs h len room e =
      passes area (Integers w big) n i (slot_for (loaded (Integers w big) true (amount n 0) bs)) refl (inside (loaded (Integers w big) true (amount n 0) bs) room) refl
      (enough-all n _ plain (length-items (Integers w big) true (amount n 0) bs h len)) refl refl
  serves (Integers w big) false bs h len room e =
      passes area (Integers w big) n i (slot_for (loaded (Integers w big) false (amount n 0) bs)) refl (inside (loaded (Integers w big) false (amount n 0) bs) room) refl
      (enough-all n _ plain (length-items (Integers w big) false (amount n 0) bs h len)) refl refl
  serves (Reals true big) u bs h len room e = absurd h
  serves (Reals false big) u bs h len room e =
      passes area (Reals false big) n i (slot_for (loaded (Reals false big) u (amount n 0) bs)) refl (inside (loaded (Reals false big) u (amount n 0) bs) room) refl
      (enough-all n _ plain (length-items (Reals false big) u (amount n 0) bs h len)) refl refl
