-- Laws of a field's value: how many items it has, and how many bytes of the area it takes.
use Prim.Native.Nat.{ℕ, ◌+◌, ◌*◌, ◌≤◌, ◌<◌, ◌-◌}
use native.Mathlib.Nat.{mul-le-mul, le_refl}
use native.Mathlib.Omega.{arith}
use mathlib.Core.Path.{◌≡◌, refl, sym, ap, ◌∙◌}
use mathlib.Core.Bool.{Bool, true, false}
use mathlib.Core.List.{List, map}
use borrow.Author.Tests.{eq-eqb, ne_eqb}
use lib.ListN.{length, take, drop, length-take, length-drop, length-map}
use borrow.Rule.Slice.PartMut.{put_mid}
use Rattle.byte_runs.proofs.ByteLaws.{put-part}
use Rattle.layout.specs.declared.Role.TheVariants.{Data}
use Rattle.layout.specs.declared.Shape.{Shape}
use Rattle.layout.specs.declared.Shape.TheVariants.{Text, Digits, Integers, Reals}
use Rattle.record.specs.Bytes.{part, store_at, join, digits, ordered, ceil_div}
use Rattle.record.specs.Table.{real, integer_size, integer_bytes, area_bytes, integer_kind}
use Rattle.record.specs.Geometry.{base, per_byte, bytes_for}
use Rattle.record.specs.Reading.{trimmed, loaded, value_at}
use Rattle.record.proofs.Bytes.{length_digits, length-ordered, length-join, length-pieces}
use Rattle.record.proofs.NumberLaws.{length-big_endian}
use Rattle.record.proofs.Stores.{length_part}
use Rattle.record.proofs.Fields.{split}
use Rattle.layout.specs.Codes.{last_digits, last_integers, last_data}
use Rattle.layout.specs.inside.Parsing.{shape_numbered, FitRole}
use Rattle.reading.specs.inside.value.{Inside, TextOf, SizeOf, LoadedAs}
use Rattle.layout.proofs.Numbered.{shape-digits, shape-kept, shape-integers, shape-reals}

-- ---- a text

pub text-kept : (bs : List ℕ) (at pad n : ℕ) → (pad ≡ 32 → ⊥) → TextOf bs at n pad n
unfolding loaded
text-kept bs at pad n h = record { short = omega arith; items = rw (ne_eqb pad 32 h) }

pub text-trimmed : (bs : List ℕ) (at pad n r : ℕ) → pad ≡ 32 → (r ≤ n) × (part bs at r ≡ trimmed (part bs at n)) → TextOf bs at n pad r
unfolding loaded
text-trimmed bs at pad n r h e = record { short = e.0; items = rw (eq-eqb pad 32 h) e.1 }

pub text-bytes : (pad : ℕ) (u : Bool) (n : ℕ) (bs : List ℕ) → area_bytes (loaded (Text pad) u n bs) ≡ (loaded (Text pad) false n bs).items
unfolding area_bytes loaded
text-bytes pad u n bs = refl

-- ---- digits

pub digits-bytes : (hex high u : Bool) (n : ℕ) (bs : List ℕ) → area_bytes (loaded (Digits hex high) u n bs) ≡ (loaded (Digits hex high) false n bs).items
unfolding area_bytes loaded
digits-bytes hex high u n bs = refl

full : (hex : Bool) (n : ℕ) → n ≤ ceil_div n (per_byte hex) * per_byte hex
full true n = omega arith
full false n = omega arith

length-shown : (hex high : Bool) (b : ℕ) → length (ordered high (digits (base hex) (per_byte hex) b)) ≡ per_byte hex
length-shown hex high b = length-ordered high (digits (base hex) (per_byte hex) b) ∙ length_digits (base hex) (per_byte hex) b

pub digits-length : (hex high u : Bool) (n : ℕ) (bs : List ℕ) → length bs ≡ ceil_div n (per_byte hex) → length (loaded (Digits hex high) u n bs).items ≡ n
unfolding loaded
digits-length hex high u n bs h =
    let all : length (join (map (λ b. ordered high (digits (base hex) (per_byte hex) b)) bs)) ≡ length bs * per_byte hex =
    length-join (λ b. ordered high (digits (base hex) (per_byte hex) b)) (per_byte hex) (length-shown hex high) bs in
    simp (length-take, length-map, all, h) (omega (arith, full hex n))

-- ---- integers and reals: each item of the value takes eight bytes of the area

pub record Eights (s : Shape) : Type 0 where
  pub bytes : (u : Bool) (n : ℕ) (bs : List ℕ) → area_bytes (loaded s u n bs) ≡ integer_bytes (loaded s u n bs).items
  pub long : (u : Bool) (n : ℕ) (bs : List ℕ) → length (loaded s u n bs).items ≡ n
  pub few : (n : ℕ) → n ≤ bytes_for s n

integers-bytes : (w : ℕ) (big u : Bool) (n : ℕ) (bs : List ℕ) → area_bytes (loaded (Integers w big) u n bs) ≡ integer_bytes (loaded (Integers w big) u n bs).items
unfolding area_bytes loaded
integers-bytes w big true n bs = refl
integers-bytes w big false n bs = refl

integers-length : (w : ℕ) (big u : Bool) (n : ℕ) (bs : List ℕ) → length (loaded (Integers w big) u n bs).items ≡ n
unfolding loaded
integers-length w big u n bs = simp (length-map, length-pieces)

pub integers-eight : (w : ℕ) (big : Bool) → FitRole (Data (Integers w big)) → Eights (Integers w big)
integers-eight w big h =
    record {
      bytes = λ u n bs. integers-bytes w big u n bs;
      long = λ u n bs. integers-length w big u n bs;
      few = λ n. let one : n * 1 ≤ n * w = mul-le-mul (le_refl n) h.0 in omega arith;
    }

reals-bytes : (single big u : Bool) (n : ℕ) (bs : List ℕ) → area_bytes (loaded (Reals single big) u n bs) ≡ integer_bytes (loaded (Reals single big) u n bs).items
unfolding area_bytes loaded
reals-bytes single big u n bs = refl

reals-length : (single big u : Bool) (n : ℕ) (bs : List ℕ) → length (loaded (Reals single big) u n bs).items ≡ n
unfolding loaded
reals-length true big u n bs = simp (length-map, length-pieces)
reals-length false big u n bs = simp (length-map, length-pieces)

reals-few : (single big : Bool) (n : ℕ) → n ≤ bytes_for (Reals single big) n
reals-few true big n = omega arith
reals-few false big n = omega arith

pub reals-eight : (single big : Bool) → Eights (Reals single big)
reals-eight single big =
    record {
      bytes = λ u n bs. reals-bytes single big u n bs;
      long = λ u n bs. reals-length single big u n bs;
      few = λ n. reals-few single big n;
    }

-- the form of a number above those of the digits
eights-numbered : (d : ℕ) → last_digits < d → d ≤ last_data → FitRole (Data (shape_numbered d)) → Eights (shape_numbered d)
eights-numbered d l h f =
    split d last_integers
    (λ k. let e = shape-integers d l k in rw e (integers-eight _ _ (rw e at f)))
    (λ k. rw (shape-reals d k h) (reals-eight _ _))

pub eights-size : {s : Shape} → Eights s → (u : Bool) (n : ℕ) (bs : List ℕ) → n * 8 ≡ length (area_bytes (loaded s u n bs))
eights-size {s} x u n bs =
    sym (ap length (x.bytes u n bs) ∙ length-big_endian integer_size (loaded s u n bs).items ∙ ap (λ (k : ℕ). k * integer_size) (x.long u n bs))

-- ---- the items of a field whose bytes lie in a record are few

digits-few : (hex : Bool) (n : ℕ) → n ≤ 8 * ceil_div n (per_byte hex)
digits-few true n = omega arith
digits-few false n = omega arith

pub items-few : (s : Shape) (n : ℕ) → FitRole (Data s) → n ≤ 8 * bytes_for s n
items-few (Text pad) n h = omega arith
items-few (Digits hex high) n h = digits-few hex n
items-few (Integers w big) n h = omega (arith, (integers-eight w big h).few n)
items-few (Reals single big) n h = omega (arith, reals-few single big n)

-- ---- what the code's calls ask and answer

pub inside-as : {bs : List ℕ} {at n : ℕ} {s t : Shape} → s ≡ t → Inside bs at s n → Inside bs at t n
inside-as e h = rw e at h

below_two : (d : ℕ) → d < 2 → (d ≡ 1 → ⊥) → d ≡ 0
below_two d h k = omega arith

module _ {bs : List ℕ} {at n : ℕ} where
  pub size-text : {pad r : ℕ} → Inside bs at (Text pad) n → TextOf bs at n pad r → SizeOf bs at (Text pad) n r
  size-text {pad} {r} h x =
      record {
        size = λ u. sym (ap length (text-bytes pad u n (part bs at n) ∙ sym x.items) ∙ length_part r at bs (omega arith));
        small = omega arith;
      }

  pub size-digits : {hex high : Bool} → Inside bs at (Digits hex high) n → SizeOf bs at (Digits hex high) n n
  size-digits {hex} {high} h =
      record {
        size = λ u. sym (ap length (digits-bytes hex high u n (part bs at (ceil_div n (per_byte hex)))) ∙ digits-length hex high false n _ (length_part _ at bs h.within));
        small = omega (arith, digits-few hex n);
      }

  pub size-eights : {s : Shape} → Eights s → Inside bs at s n → SizeOf bs at s n (n * 8)
  size-eights x h = record { size = λ u. eights-size x u n _; small = omega (arith, x.few n) }

  pub size-numbered : (d : ℕ) → last_digits < d → d ≤ last_data → Inside bs at (shape_numbered d) n → SizeOf bs at (shape_numbered d) n (n * 8)
  size-numbered d l h i = size-eights (eights-numbered d l h i.form) i

  pub size-as : {s t : Shape} {r : ℕ} → s ≡ t → SizeOf bs at t n r → SizeOf bs at s n r
  size-as e z = rw e z

  -- a string that is not trimmed takes a byte an item
  pub size-kept : (d : ℕ) → d ≤ last_digits → (d ≡ 1 → ⊥) → Inside bs at (shape_numbered d) n → SizeOf bs at (shape_numbered d) n n
  size-kept d l h i =
      split 2 d
      (λ k. let e = shape-digits d k (omega arith) in size-as e (size-digits (inside-as e i)))
      (λ k. let e = shape-kept d (below_two d k h) in size-as e (size-text (inside-as e i) (text-kept bs at 0 n (λ z. absurd (omega arith)))))

  -- room for the value of a form is room for that of the form that a number has
  module _ (u : Bool) (to m : ℕ) {s : Shape} (i : Inside bs at s n) (h : to + length (area_bytes (value_at bs at s u n)) ≤ m) where
    pub text-asked : {pad : ℕ} → s ≡ Text pad → Inside bs at (Text pad) n × (to + length (area_bytes (value_at bs at (Text pad) false n)) ≤ m)
    text-asked {pad} e =
        let k : to + length (area_bytes (value_at bs at (Text pad) u n)) ≤ m = rw e at h in
        (inside-as e i, rw (text-bytes pad false n (part bs at n), ← text-bytes pad u n (part bs at n)) k)

    pub digits-asked : {hex high : Bool} → s ≡ Digits hex high → Inside bs at (Digits hex high) n × (to + n ≤ m)
    digits-asked {hex} {high} e =
        let k : to + length (area_bytes (value_at bs at (Digits hex high) u n)) ≤ m = rw e at h in
        (inside-as e i, rw ((size-digits (inside-as e i)).size u) k)

    eights-asked : {t : Shape} → Eights t → s ≡ t → Inside bs at t n × (to + n * 8 ≤ m)
    eights-asked {t} x e =
        let k : to + length (area_bytes (value_at bs at t u n)) ≤ m = rw e at h in
        (inside-as e i, rw ((size-eights x (inside-as e i)).size u) k)

    pub integers-asked : {w : ℕ} {big : Bool} → s ≡ Integers w big → Inside bs at (Integers w big) n × (to + n * 8 ≤ m)
    integers-asked {w} {big} e = eights-asked (integers-eight w big (inside-as e i).form) e

    pub reals-asked : {single big : Bool} → s ≡ Reals single big → Inside bs at (Reals single big) n × (to + n * 8 ≤ m)
    reals-asked {single} {big} e = eights-asked (reals-eight single big) e

  module _ (u : Bool) {to : ℕ} {before : List ℕ} where
    pub loaded-digits : {hex high : Bool} {b : ℕ} {shown : List ℕ} → Inside bs at (Digits hex high) n → to + n ≤ length before → b ≡ ceil_div n (per_byte hex)
        → shown ≡ (loaded (Digits hex high) u (length (take (to + n - to) (drop to before))) (take (at + b - at) (drop at bs))).items
        → LoadedAs (value_at bs at (Digits hex high) u n) before to (record { kind = 1; items = n; size = n }) (put_mid to (to + n - to) before shown)
    unfolding loaded area_bytes
    loaded-digits {hex} {high} {b} {shown} h room e q =
        let z : SizeOf bs at (Digits hex high) n n = size-digits h in
        let long : length (take (to + n - to) (drop to before)) ≡ n = simp (length-take, length-drop) (omega arith) in
        let given : at + b - at ≡ ceil_div n (per_byte hex) = omega arith in
        let is : shown ≡ (value_at bs at (Digits hex high) u n).items = rw (long, given) at q in
        let all : length shown ≡ to + n - to = omega (arith, ap length is, z.size u) in
        record { kind = refl; items = z.size u; size = z.size u; few = z.small; area = put-part to (to + n - to) before shown all ∙ ap (store_at before to) is }

  module _ (u : Bool) {to : ℕ} {before after : List ℕ} where
    pub loaded-text : {pad r : ℕ} → Inside bs at (Text pad) n → TextOf bs at n pad r → after ≡ store_at before to (part bs at r)
        → LoadedAs (value_at bs at (Text pad) u n) before to (record { kind = 1; items = r; size = r }) after
    unfolding loaded
    loaded-text {pad} {r} h x e =
        let z : SizeOf bs at (Text pad) n r = size-text h x in
        record {
          kind = refl;
          items = z.size u ∙ ap length (text-bytes pad u n (part bs at n));
          size = z.size u;
          few = z.small;
          area = e ∙ ap (store_at before to) (x.items ∙ sym (text-bytes pad u n (part bs at n)));
        }

    loaded-eights : {s : Shape} {k : ℕ} → Eights s → Inside bs at s n → k ≡ (value_at bs at s u n).kind → after ≡ store_at before to (integer_bytes (value_at bs at s u n).items)
        → LoadedAs (value_at bs at s u n) before to (record { kind = k; items = n; size = n * 8 }) after
    loaded-eights {s} x h q e =
        let z : SizeOf bs at s n (n * 8) = size-eights x h in
        record { kind = q; items = sym (x.long u n _); size = z.size u; few = omega (arith, z.small); area = e ∙ ap (store_at before to) (sym (x.bytes u n _)) }

    pub loaded-integers : {w : ℕ} {big : Bool} {k : ℕ} → Inside bs at (Integers w big) n → k ≡ integer_kind u → after ≡ store_at before to (integer_bytes (value_at bs at (Integers w big) u n).items)
        → LoadedAs (value_at bs at (Integers w big) u n) before to (record { kind = k; items = n; size = n * 8 }) after
    unfolding loaded
    loaded-integers {w} {big} h q e = loaded-eights (integers-eight w big h.form) h q e

    pub loaded-reals : {single big : Bool} → Inside bs at (Reals single big) n → after ≡ store_at before to (integer_bytes (value_at bs at (Reals single big) u n).items)
        → LoadedAs (value_at bs at (Reals single big) u n) before to (record { kind = real; items = n; size = n * 8 }) after
    unfolding loaded
    loaded-reals {single} {big} h e = loaded-eights (reals-eight single big) h refl e
