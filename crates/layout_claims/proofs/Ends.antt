-- Where a field ends: a byte after it belongs to it just where both together are a field. So a byte breaks the form of
-- a text just where it is no space, no type character, and does not belong to the field right before it.
use Prim.Native.Nat.{ℕ, ◌+◌}
use native.Mathlib.Omega.{arith}
use mathlib.Core.Path.{◌≡◌, refl, sym, ap, ◌∙◌, subst}
use mathlib.Core.Bool.{Bool, true, false}
use mathlib.Core.List.{List, [], ◌∷◌, ◌++◌, append_assoc, append-nil}
use borrow.Author.Tests.{ne_eqb}
use lib.Dec.{eqb}
use lib.ListN.{length, length-append}
use Rattle.std.specs.declared.option.Option.{Option}
use Rattle.std.specs.declared.option.Option.TheVariants.{Some, None}
use Rattle.layout.specs.declared.Role.{Role}
use Rattle.layout.specs.declared.Count.{Count}
use Rattle.layout.specs.declared.Count.TheVariants.{Absent, Star}
use Rattle.layout.specs.declared.Field.{Field}
use Rattle.layout.specs.Layout.{is_decimal, type_of, flagged}
use Rattle.layout_claims.specs.Spelling.{Digit, Digits, flag, Counts, absent, star, number, Writes, written, Spells, nothing, spaced, next, Formed}
use Rattle.layout_claims.specs.Faults.{GoesOn}
use Rattle.layout_claims.specs.Claim.{Strays}
use Rattle.layout_claims.proofs.Scan.{never, digit, Loose, not_known, Apart, apart-end, apart-loose}
use Rattle.layout_claims.proofs.Form.{Starts, starts, unspaced, join, alone, size_in, First, first, Split, split}

-- ---- what stands after a field

-- a field takes all its bytes
whole : {f : Field} {text : List ℕ} → Writes f text → (c : ℕ) (cs : List ℕ) → text ≡ c ∷ cs → size_in cs ≡ length cs
whole (written {k = k} {u = u} {n = n} {count = count} e q) c cs h =
    let bytes : List ℕ = flag u ++ count in
    let same : bytes ≡ cs = cc in
    let size : size_in (bytes ++ []) ≡ length bytes = (first k u [] q (apart-end u n)).size in
    let bare : size_in bytes ≡ length bytes = rw append-nil at size in
    rw same at bare

module _ {n : Count} {count : List ℕ} (c : ℕ) (k : Role) (u : Bool) (e : type_of c ≡ Some k) (q : Counts n count) where
  abbrev bytes : List ℕ
  bytes = c ∷ (flag u ++ count)

  -- what does not belong to it has the form of a layout where both together have
  pub behind : (rest : List ℕ) → Apart u n rest → Formed (bytes ++ rest) → Formed rest
  behind rest h (fs, p) =
      let cs : List ℕ = (flag u ++ count) ++ rest in
      let s : First k u n (flag u ++ count) rest = first k u rest q h in
      let t : Split k cs fs = split p c cs k refl e in
      (t.others, subst (Spells t.others) s.others t.rest)

  -- and is no field together with it
  pub no_longer : (b : ℕ) → Apart u n (b ∷ []) → (f : Field) → Writes f (bytes ++ (b ∷ [])) → ⊥
  no_longer b h f w =
      let cs : List ℕ = (flag u ++ count) ++ (b ∷ []) in
      let long : length cs ≡ length (flag u ++ count) + 1 = length-append (flag u ++ count) (b ∷ []) in
      omega (arith, (first k u (b ∷ []) q h).size, whole w c cs refl)

  no-count : {m : Count} (b : ℕ) → ((f : Field) → Writes f (bytes ++ (b ∷ [])) → ⊥) → Counts m (count ++ (b ∷ [])) → ⊥
  no-count {m} b ends r =
      ends (record { role = k; unsigned = u; count = m }) (rw (append_assoc (flag u) count (b ∷ [])) (written e r))

digits_more : (ds : List ℕ) (b : ℕ) → Digits ds → Digit b → Digits (ds ++ (b ∷ []))
digits_more [] b h d = (d, tt)
digits_more (x ∷ ds) b h d = (h.0, digits_more ds b h.1 d)

not_digit : (b : ℕ) → (Digit b → ⊥) → is_decimal b ≡ false
not_digit b h = go (is_decimal b) refl
  where
    go : (t : Bool) → is_decimal b ≡ t → t ≡ false
    go true e = absurd (h (digit b e))
    go false e = refl

-- what is no field together with a field does not belong to it
pub ends-apart : {n : Count} {count : List ℕ} (c : ℕ) (k : Role) (u : Bool) → type_of c ≡ Some k → Counts n count
    → (b : ℕ) (more : List ℕ) → ((f : Field) → Writes f ((c ∷ (flag u ++ count)) ++ (b ∷ [])) → ⊥)
    → Apart u n (b ∷ more)
unfolding flagged
ends-apart c k u e star b more h = record { count = tt; flag = λ z y. never (cc) }
ends-apart c k u e (number {d = d} {ds = ds} g) b more h =
    record {
      count = not_digit b (λ y. no-count c k u e (number g) b h (number (g.0, digits_more ds b g.1 y)));
      flag = λ z y. never (cc);
    }
ends-apart c k u e absent b more h =
    record {
      count = (
        ne_eqb b 42 (λ y. no-count c k u e absent {m = Star} b h (rw y star)),
        not_digit b (λ y. no-count c k u e absent b h (number (y, tt))),
      );
      flag = λ z y. by_flag u z h;
    }
  where
    by_flag : (v : Bool) → v ≡ false → ((f : Field) → Writes f ((c ∷ (flag v ++ [])) ++ (b ∷ [])) → ⊥)
        → eqb b 117 ≡ false
    by_flag true z g = never (cc)
    by_flag false z g =
        ne_eqb b 117 (λ y. g (record { role = k; unsigned = true; count = Absent }) (rw y (written e absent)))

-- ---- a byte that goes on with the field before it

pub on-space : (text : List ℕ) (c : ℕ) → GoesOn text c → GoesOn (32 ∷ text) c
on-space text c g =
    record {
      start = 32 ∷ g.start;
      bytes = g.bytes;
      parts = ap (λ (x : List ℕ). 32 ∷ x) g.parts;
      form = (g.form.0, spaced g.form.1);
      short = g.short;
      long = g.long;
    }

pub on-next : {f : Field} {bytes : List ℕ} → Writes f bytes → (text : List ℕ) (c : ℕ) → GoesOn text c
    → GoesOn (bytes ++ text) c
on-next {f} {bytes} w text c g =
    record {
      start = bytes ++ g.start;
      bytes = g.bytes;
      parts = ap (λ (x : List ℕ). bytes ++ x) g.parts ∙ sym (append_assoc bytes g.start g.bytes);
      form = (f ∷ g.form.0, next w g.form.1);
      short = g.short;
      long = g.long;
    }

-- a space or a type character never does
pub loose-ends : (text : List ℕ) (c : ℕ) → Loose c → GoesOn text c → ⊥
loose-ends text c l g = go g.short.1 g.long.0 g.long.1
  where
    go : {f : Field} {bytes : List ℕ} → Writes f bytes → (h : Field) → Writes h (bytes ++ (c ∷ [])) → ⊥
    go (written {c = b} {k = k} {u = u} {n = n} e q) h w = no_longer b k u e q c (apart-loose u n c [] l) h w

-- and what does not, does not belong to the field that ends there
module _ {n : Count} {count : List ℕ} (b : ℕ) (k : Role) (u : Bool) (e : type_of b ≡ Some k) (q : Counts n count) where
  alone-on : (c : ℕ) (f : Field) → Writes f ((b ∷ (flag u ++ count)) ++ (c ∷ []))
      → GoesOn ((b ∷ (flag u ++ count)) ++ []) c
  alone-on c f w =
      record {
        start = [];
        bytes = b ∷ (flag u ++ count);
        parts = append-nil (b ∷ (flag u ++ count));
        form = ([], nothing);
        short = (_, written {u = u} e q);
        long = (f, w);
      }

  pub apart-behind : (rest : List ℕ) → Starts rest → (c : ℕ) (more : List ℕ)
      → (GoesOn ((b ∷ (flag u ++ count)) ++ rest) c → ⊥) → Apart u n (rest ++ (c ∷ more))
  apart-behind (x ∷ xs) l c more h = apart-loose u n x (xs ++ (c ∷ more)) l
  apart-behind [] l c more h = ends-apart b k u e q c more (λ f w. h (alone-on c f w))

-- ---- a byte that breaks the form

-- it begins no text
pub no-form : (c : ℕ) → (c ≡ 32 → ⊥) → type_of c ≡ None
    → {fs : List Field} {text : List ℕ} → Spells fs text → text ≡ c ∷ [] → ⊥
no-form c h e nothing z = never (cc)
no-form c h e (spaced p) z = h (cc)
no-form c h e (next (written {c = b} {k = k} g q) p) z =
    let same : b ≡ c = cc in
    not_known b k g (ap type_of same ∙ e)

module _ (c : ℕ) (no-space : c ≡ 32 → ⊥) (unknown : type_of c ≡ None) where
  breaks : {fs : List Field} {text : List ℕ} → Spells fs text → (GoesOn text c → ⊥) → Formed (text ++ (c ∷ [])) → ⊥
  breaks nothing h (gs, q) = no-form c no-space unknown q refl
  breaks (spaced {text = text} p) h (gs, q) =
      breaks p (λ g. h (on-space text c g)) (gs, unspaced q (text ++ (c ∷ [])) refl)
  breaks (next {rest = rest} (written {c = b} {k = k} {u = u} {count = count} e q) p) h r =
      let all : Formed ((b ∷ (flag u ++ count)) ++ (rest ++ (c ∷ []))) = rw append_assoc at r in
      breaks p (λ g. h (on-next (written {u = u} e q) rest c g))
      (behind b k u e q (rest ++ (c ∷ [])) (apart-behind b k u e q rest (starts p) c [] h) all)

-- a byte that breaks the form is no space and no type character ..
no-type : (text : List ℕ) (c : ℕ) → Formed text → (Formed (text ++ (c ∷ [])) → ⊥)
    → (c ≡ 32 → ⊥) × (type_of c ≡ None)
no-type text c (fs, p) h = (λ e. h (fs ++ [], join p (rw e (spaced nothing))), by-type (type_of c) refl)
  where
    by-type : (t : Option Role) → type_of c ≡ t → t ≡ None
    by-type (Some k) e = absurd (h (_, join p (alone (written {u = false} e absent))))
    by-type None e = refl

-- .. and does not go on with the field before it
longer : (text : List ℕ) (c : ℕ) → GoesOn text c → Formed (text ++ (c ∷ []))
longer text c g =
    let cut : text ++ (c ∷ []) ≡ (g.start ++ g.bytes) ++ (c ∷ []) = ap (λ (x : List ℕ). x ++ (c ∷ [])) g.parts in
    let e = cut ∙ append_assoc g.start g.bytes (c ∷ []) in
    (_, subst (Spells _) (sym e) (join g.form.1 (alone g.long.1)))

pub strays : Strays
unfolding Strays
strays text c form = (
  λ h. (let n = no-type text c form h in (n.0, n.1, λ g. h (longer text c g))),
  λ h. breaks c h.0 h.1 form.1 h.2,
)
