-- Laws of strings in fields: cut and padded, and trimmed from the end.
use Prim.Native.Nat.{ℕ, suc, ◌+◌, ◌-◌, ◌≤◌, ◌<◌, min}
use native.Mathlib.Omega.{arith}
use mathlib.Core.Path.{◌≡◌, refl, sym, ap, ◌∙◌}
use mathlib.Core.Bool.{true, false}
use mathlib.Core.List.{List, [], ◌∷◌, ◌++◌, append_assoc}
use lib.ListN.{length, take, drop, get_or, replicate, length-drop, length-replicate}
use lib.Seq.{get_or-drop, drop-drop, take-add, take-suc, take-take, take_all, take-length}
use Rattle.layout.specs.declared.Shape.TheVariants.{Text}
use Rattle.record.specs.Bytes.{part, store_at, fit, digits}
use Rattle.record.specs.Packing.{stored}
use Rattle.record.specs.Reading.{is_blank, trimmed}
use Rattle.record.proofs.Stores.{length_part}
use Rattle.record.proofs.Fields.{split}
use Rattle.byte_runs.proofs.ByteLaws.{store_both}

-- one byte more at the end: a blank does not count, and any other byte keeps all before it
trimmed-blank : (l : List ℕ) (c : ℕ) → is_blank c ≡ true → trimmed (l ++ (c ∷ [])) ≡ trimmed l
unfolding trimmed
trimmed-blank [] c e = rw e
trimmed-blank (x ∷ l) c e = rw (trimmed-blank l c e)

trimmed-kept : (l : List ℕ) (c : ℕ) → is_blank c ≡ false → trimmed (l ++ (c ∷ [])) ≡ l ++ (c ∷ [])
unfolding trimmed
trimmed-kept [] c e = rw e
trimmed-kept (x ∷ []) c e = rw (trimmed-kept [] c e)
trimmed-kept (x ∷ y ∷ l) c e = rw (trimmed-kept (y ∷ l) c e)

-- the same where the run is the k bytes of a record from a place on
module _ (bs : List ℕ) (at k : ℕ) (pos : 0 < k) (fits : at + k ≤ length bs) where
  last : part bs at k ≡ part bs at (k - 1) ++ (get_or bs (at + (k - 1)) 0 ∷ [])
  last =
      let s : k ≡ suc (k - 1) = omega arith in
      ap (part bs at) s ∙ take-suc (drop at bs) (k - 1) 0 (omega (arith, length-drop at bs))
      ∙ ap (λ (c : ℕ). part bs at (k - 1) ++ (c ∷ [])) (get_or-drop at bs (k - 1) 0)

  pub drop-blank : is_blank (get_or bs (at + (k - 1)) 0) ≡ true → trimmed (part bs at k) ≡ trimmed (part bs at (k - 1))
  drop-blank e = ap trimmed last ∙ trimmed-blank (part bs at (k - 1)) _ e

  pub keep_all : is_blank (get_or bs (at + (k - 1)) 0) ≡ false → part bs at k ≡ trimmed (part bs at k)
  keep_all e = last ∙ sym (ap trimmed last ∙ trimmed-kept (part bs at (k - 1)) _ e)

-- spaces at the end, four at once
trimmed-spaces : (l : List ℕ) → trimmed (l ++ (32 ∷ 32 ∷ 32 ∷ 32 ∷ [])) ≡ trimmed l
trimmed-spaces l =
    let less : (m : List ℕ) → trimmed (m ++ (32 ∷ [])) ≡ trimmed m = λ m. trimmed-blank m 32 refl in
    let apart : l ++ (32 ∷ 32 ∷ 32 ∷ 32 ∷ []) ≡ (((l ++ (32 ∷ [])) ++ (32 ∷ [])) ++ (32 ∷ [])) ++ (32 ∷ []) = simp append_assoc in
    rw (apart, less (((l ++ (32 ∷ [])) ++ (32 ∷ [])) ++ (32 ∷ [])), less ((l ++ (32 ∷ [])) ++ (32 ∷ [])), less (l ++ (32 ∷ [])), less l)

pub drop-four : (bs : List ℕ) (at k x : ℕ) → 4 ≤ k → x ≡ 538976288 → digits 256 4 x ≡ part bs (at + (k - 4)) 4 → trimmed (part bs at k) ≡ trimmed (part bs at (k - 4))
unfolding digits
drop-four bs at k x h e is =
    let s : k ≡ k - 4 + 4 = omega arith in
    let spaces : part bs (at + (k - 4)) 4 ≡ 32 ∷ 32 ∷ 32 ∷ 32 ∷ [] = sym is ∙ ap (digits 256 4) e in
    let cut : part bs at (k - 4 + 4) ≡ part bs at (k - 4) ++ part bs (at + (k - 4)) 4 = rw (take-add (k - 4) 4 (drop at bs), drop-drop (k - 4) at bs) in
    ap (λ (n : ℕ). trimmed (part bs at n)) s ∙ rw (cut, spaces) (trimmed-spaces (part bs at (k - 4)))

pub none_left : (bs : List ℕ) (at : ℕ) → part bs at 0 ≡ trimmed (part bs at 0)
unfolding trimmed
none_left bs at = refl

-- a string cut or padded is what is kept of it, and then the padding
padded : (xs : List ℕ) (n pad : ℕ) → take (min (length xs) n) xs ++ replicate (n - min (length xs) n) pad ≡ stored (Text pad) n xs
unfolding stored fit
padded xs n pad =
    split (length xs) n
    (λ h. let e : min (length xs) n ≡ length xs = omega arith in rw (e, take-length, take_all n xs))
    (λ h. let e : min (length xs) n ≡ n = omega arith in
    let z : n - n ≡ n - length xs = omega arith in rw (e, z))

-- the same of a string in the area, stored in two steps
pub store-padded : (d : List ℕ) (at : ℕ) (area : List ℕ) (start len n pad kept : ℕ) {d₁ d₂ : List ℕ} → at + n ≤ length d → start + len ≤ length area → kept ≡ min len n
    → d₁ ≡ store_at d at (part area start kept) → d₂ ≡ store_at d₁ (at + kept) (replicate (n - kept) pad)
    → d₂ ≡ store_at d at (stored (Text pad) n (part area start len))
store-padded d at area start len n pad kept room inside least first second =
    let long : length (part area start len) ≡ len = length_part len start area inside in
    let cut : part area start kept ≡ take kept (part area start len) = sym (take-take kept len (drop start area) (omega arith)) in
    let least' : kept ≡ min (length (part area start len)) n = rw long least in
    let is : part area start kept ++ replicate (n - kept) pad ≡ stored (Text pad) n (part area start len) =
    rw (cut, least') (padded (part area start len) n pad) in
    store_both d at kept (part area start kept) (replicate (n - kept) pad) (length_part kept start area (omega arith)) (rw length-replicate (omega arith)) first second
    ∙ ap (store_at d at) is
