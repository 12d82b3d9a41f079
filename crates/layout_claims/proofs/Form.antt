-- The grammar by itself. A text goes on with a space or a type character, which belong to no field before; so the bytes
-- that the reader would take for the first field are those of that field in every spelling, and so on after it.
use Prim.Native.Nat.{ℕ, zero, suc, ◌+◌}
use mathlib.Core.Path.{◌≡◌, refl, sym, ap, ◌∙◌, subst}
use mathlib.Core.Bool.{Bool}
use mathlib.Core.List.{List, [], ◌∷◌, ◌++◌, append_assoc, append-nil}
use borrow.Author.Tests.{eqb-false}
use lib.ListN.{length, drop, replicate}
use lib.Seq.{drop_at}
use Rattle.std.specs.declared.option.Option.TheVariants.{Some}
use Rattle.layout.specs.declared.Role.{Role}
use Rattle.layout.specs.declared.Count.{Count}
use Rattle.layout.specs.declared.Field.{Field}
use Rattle.layout.specs.Layout.{type_of, flagged, count_of, count_length, to_nat}
use Rattle.layout.proofs.Steps.{is-decimal}
use Rattle.layout_claims.specs.Spelling.{flag, Counts, Writes, written, Spells, nothing, spaced, next}
use Rattle.layout_claims.specs.Claim.{Blank, Begins, OneList, Joined}
use Rattle.layout_claims.proofs.Scan.{never, Loose, not_known, known-loose, Apart, apart-end, apart-loose, Scanned, scanned}

-- ---- what a text begins with

abbrev pub Starts : List ℕ → Type 0
Starts [] = Unit {0}
Starts (c ∷ cs) = Loose c

pub starts : {fs : List Field} {text : List ℕ} → Spells fs text → Starts text
starts nothing = tt
starts (spaced p) = record { no_flag = refl; no-star = refl; no_digit = refl }
starts (next (written {c = c} {k = k} e q) p) = known-loose c k e

pub apart-starts : (u : Bool) (n : Count) (text : List ℕ) → Starts text → Apart u n text
apart-starts u n [] h = apart-end u n
apart-starts u n (c ∷ cs) h = apart-loose u n c cs h

pub begins : Begins
unfolding Begins
begins fs c text p =
    let h : Loose c = starts p in (
      λ d. never (cc (is-decimal c d.0 d.1, h.no_digit)),
      eqb-false c 42 h.no-star,
      eqb-false c 117 h.no_flag,
    )

-- ---- spaces

pub no-space {ℓ} : {X : Type ℓ} (c : ℕ) (k : Role) → type_of c ≡ Some k → c ≡ 32 → X
unfolding type_of
no-space c k e h = not_known c k e (rw h)

-- without its first space a text spells the same
pub unspaced : {fs : List Field} {text : List ℕ} → Spells fs text → (rest : List ℕ) → text ≡ 32 ∷ rest
    → Spells fs rest
unspaced nothing rest e = never (cc)
unspaced {fs} (spaced {text = text} p) rest e = let l : text ≡ rest = cc in subst (Spells fs) l p
unspaced (next (written {c = c} {k = k} h q) p) rest e = no-space c k h (let l : c ≡ 32 = cc in l)

blank-text : {fs : List Field} {text : List ℕ} → Spells fs text → fs ≡ [] → text ≡ replicate (length text) 32
blank-text nothing e = refl
blank-text (spaced p) e = ap (λ (x : List ℕ). 32 ∷ x) (blank-text p e)
blank-text (next w p) e = never (cc)

spaces : (n : ℕ) → Spells [] (replicate n 32)
spaces zero = nothing
spaces (suc n) = spaced (spaces n)

pub blank : Blank
unfolding Blank
blank text = (λ p. blank-text p refl, λ e. subst (Spells []) (sym e) (spaces (length text)))

-- ---- texts joined

pub join : {fs gs : List Field} {a b : List ℕ} → Spells fs a → Spells gs b → Spells (fs ++ gs) (a ++ b)
join nothing q = q
join (spaced p) q = spaced (join p q)
join {b = b} (next {bytes = bytes} {rest = rest} w p) q = rw (append_assoc bytes rest b) (next w (join p q))

pub joined : Joined
unfolding Joined
joined a b fs gs p q = join p q

-- a field by itself
pub alone : {f : Field} {bytes : List ℕ} → Writes f bytes → Spells (f ∷ []) bytes
alone {f} {bytes} w = subst (Spells (f ∷ [])) (append-nil bytes) (next w nothing)

-- ---- the first field

-- what the reader finds after a type character of k, and in how many bytes
abbrev field_in : Role → List ℕ → Field
field_in k cs = record { role = k; unsigned = flagged cs; count = count_of (drop (to_nat (flagged cs)) cs) }

abbrev pub size_in : List ℕ → ℕ
size_in cs = to_nat (flagged cs) + count_length (drop (to_nat (flagged cs)) cs)

pub record First (k : Role) (u : Bool) (n : Count) (bytes rest : List ℕ) : Type 0 where
  pub field : field_in k (bytes ++ rest) ≡ record { role = k; unsigned = u; count = n }
  pub size : size_in (bytes ++ rest) ≡ length bytes
  pub others : drop (size_in (bytes ++ rest)) (bytes ++ rest) ≡ rest

pub first : {n : Count} {count : List ℕ} (k : Role) (u : Bool) (rest : List ℕ) → Counts n count → Apart u n rest
    → First k u n (flag u ++ count) rest
first {n} {count} k u rest q h =
    let bytes : List ℕ = flag u ++ count in
    let s : Scanned u n (length bytes) (bytes ++ rest) = scanned q u rest h in
    let size : size_in (bytes ++ rest) ≡ length bytes = rw s.flag s.size in
    record {
      field = rw (s.flag, s.count);
      size = size;
      others = drop_at bytes rest (size_in (bytes ++ rest)) (sym size);
    }

-- every spelling of a text that begins with a type character begins with that field
pub record Split (k : Role) (cs : List ℕ) (fs : List Field) : Type 0 where
  pub others : List Field
  pub first : fs ≡ field_in k cs ∷ others
  pub rest : Spells others (drop (size_in cs) cs)

pub split : {fs : List Field} {text : List ℕ} → Spells fs text → (c : ℕ) (cs : List ℕ) (k : Role)
    → text ≡ c ∷ cs → type_of c ≡ Some k → Split k cs fs
split nothing c cs k e h = never (cc)
split (spaced p) c cs k e h = no-space c k h (let l : c ≡ 32 = cc in l)
split (next {fs = fs} {rest = rest} (written {k = j} {u = u} {n = n} {count = count} g q) p) c cs k e h =
    let bytes : List ℕ = flag u ++ count in
    let s : First j u n bytes rest = first j u rest q (apart-starts u n rest (starts p)) in
    let same : bytes ++ rest ≡ cs = cc in
    let role : j ≡ k = cc in
    let f : field_in j (bytes ++ rest) ≡ field_in k cs =
    ap (λ (x : Role). field_in x (bytes ++ rest)) role ∙ ap (field_in k) same in
    record {
      others = fs;
      first = ap (λ (x : Field). x ∷ fs) (sym s.field ∙ f);
      rest = subst (Spells fs) (sym s.others ∙ ap (λ (x : List ℕ). drop (size_in x) x) same) p;
    }

-- ---- one list of fields

no_bytes : {fs : List Field} {text : List ℕ} → Spells fs text → text ≡ [] → [] ≡ fs
no_bytes nothing e = refl
no_bytes (spaced p) e = never (cc)
no_bytes (next (written h q) p) e = never (cc)

one : {fs gs : List Field} {text : List ℕ} → Spells fs text → Spells gs text → fs ≡ gs
one nothing r = no_bytes r refl
one (spaced {text = text} p) r = one p (unspaced r text refl)
one (next {fs = fs} {rest = rest} (written {c = c} {k = k} {u = u} {n = n} {count = count} e q) p) r =
    let cs : List ℕ = (flag u ++ count) ++ rest in
    let s : First k u n (flag u ++ count) rest = first k u rest q (apart-starts u n rest (starts p)) in
    let t : Split k cs _ = split r c cs k refl e in
    let same : fs ≡ t.others = one p (subst (Spells t.others) s.others t.rest) in
    ap (λ (x : Field). x ∷ fs) (sym s.field) ∙ ap (λ (x : List Field). field_in k cs ∷ x) same ∙ sym t.first

pub one_list : OneList
unfolding OneList
one_list text fs gs p q = one p q
