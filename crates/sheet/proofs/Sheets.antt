-- Laws of whole sheets over the version and the width of a length: a sheet that was written is sound, and a sound sheet
-- is that of its entries.
use Prim.Native.Nat.{ℕ, suc, ◌+◌, ◌*◌, ◌^◌, ◌≤◌, ◌<◌}
use native.Mathlib.Nat.{suc-mul}
use native.Mathlib.Omega.{arith}
use mathlib.Core.Path.{◌≡◌, refl, sym, ap, ap₂, ◌∙◌}
use mathlib.Core.Bool.{true}
use mathlib.Core.List.{List, [], ◌∷◌, ◌++◌, append-nil}
use borrow.Author.Tests.{le-leb, leb-true, eq-eqb, eqb-true}
use lib.Dec.{leb}
use lib.ListN.{length, drop, length-append, length-drop, take-append-drop}
use lib.Seq.{drop_at, drop-length}
use Rattle.record.specs.Bytes.{join, number_bytes, number_at}
use Rattle.record.proofs.Bytes.{All, all_drop, and-true}
use Rattle.record.proofs.NumberLaws.{length-number_bytes}
use Rattle.sheet.specs.Entries.{Entry, entry_bytes, body_bytes, entry_values, entries_in}
use Rattle.sheet.specs.Sheet.{header_size, sheet_bytes, version_of, header_fits, entries_end}
use Rattle.sheet.proofs.Entries.{AllSound, number_in, bytes-in, length-entry, entries-in, body_back}

pub sheet-version : (v w : ℕ) (es : List Entry) → version_of (sheet_bytes v w es) ≡ v
unfolding sheet_bytes
sheet-version v w es = refl

-- entries take their values, and for each a length and a kind
pub length-body : (w : ℕ) (es : List Entry) → length (body_bytes w es) ≡ length es * header_size w + length (entry_values es)
unfolding body_bytes entry_values join
length-body w [] = omega arith
length-body w (e ∷ es) =
    let a : length (entry_bytes w e ++ body_bytes w es) ≡ length (entry_bytes w e) + length (body_bytes w es) = length-append (entry_bytes w e) (body_bytes w es) in
    let b : length (e.value ++ entry_values es) ≡ length e.value + length (entry_values es) = length-append e.value (entry_values es) in
    rw suc-mul (omega (arith, a, b, length-entry w e, length-body w es))

module _ (v w : ℕ) (es : List Entry) where
  pub length-sheet : length (sheet_bytes v w es) ≡ entries_end w es
  unfolding sheet_bytes entries_end
  length-sheet =
      let sum : length (number_bytes w (length (body_bytes w es)) ++ body_bytes w es) ≡ w + length
      (body_bytes w es) = length-append (number_bytes w (length (body_bytes w es))) (body_bytes w es)
      ∙ rw length-number_bytes in
      omega arith

  -- what follows the header
  pub sheet-body : drop (header_size w) (sheet_bytes v w es) ≡ body_bytes w es
  unfolding sheet_bytes
  sheet-body = drop_at (number_bytes w (length (body_bytes w es))) (body_bytes w es) w (length-number_bytes w _)

  module _ (short : length (body_bytes w es) < 256 ^ w) where
    pub sheet-header : header_fits w (sheet_bytes v w es) ≡ true
    unfolding header_fits sheet_bytes entries_end number_at
    sheet-header =
        let n : number_at w (drop 1 (sheet_bytes v w es)) 0 ≡ length (body_bytes w es) = number_in w (length (body_bytes w es)) (body_bytes w es) short in
        let long : length (sheet_bytes v w es) ≡ suc w + length (body_bytes w es) = length-sheet in
        rw (n, long, le-leb (suc w) (suc w + length (body_bytes w es)) (omega arith), eq-eqb (suc w + length (body_bytes w es)) (suc w + length (body_bytes w es)) refl)

    pub sheet-entries : AllSound es → entries_in w (drop (header_size w) (sheet_bytes v w es)) ≡ es
    unfolding entries_in
    sheet-entries s = ap (entries_in w) (sheet-body ∙ sym (append-nil (body_bytes w es))) ∙ entries-in w es [] s short ∙ append-nil es

-- the header of a sound sheet is that of its entries, and the entries are all that follows
pub sheet-back : (v w : ℕ) (bs : List ℕ) → All (λ d. d < 256) bs → header_fits w (v ∷ bs) ≡ true
    → entries_end w (entries_in w (drop (header_size w) (v ∷ bs))) ≡ length (v ∷ bs)
    → sheet_bytes v w (entries_in w (drop (header_size w) (v ∷ bs))) ≡ v ∷ bs
unfolding sheet_bytes entries_end header_fits number_at
sheet-back v w bs all head whole =
    let es : List Entry = entries_in w (drop w bs) in
    let body : List ℕ = body_bytes w es in
    let h = and-true (leb (suc w) (suc (length bs))) _ head in
    let here : suc w ≤ suc (length bs) = leb-true (suc w) (suc (length bs)) h.0 in
    let number : suc w + number_at w bs 0 ≡ suc (length bs) = eqb-true (suc w + number_at w bs 0) (suc (length bs)) h.1 in
    let end : suc w + length body ≡ suc (length bs) = whole in
    let same : length body ≡ number_at w bs 0 = omega arith in
    let all_there : length body ≡ length (drop w bs) = rw length-drop (omega arith) in
    let back : body ≡ drop w bs = sym (append-nil body) ∙ ap (λ (r : List ℕ). body ++ r)
    (sym (ap (λ (n : ℕ). drop n (drop w bs)) all_there ∙ drop-length (drop w bs))) ∙ body_back w (drop w bs)
    (all_drop (λ d. d < 256) w bs all) in
    ap (λ (r : List ℕ). v ∷ r)
    (ap₂ (λ (a : List ℕ) (b : List ℕ). a ++ b) (ap (number_bytes w) same ∙ bytes-in w bs (omega arith) all) back ∙ take-append-drop w bs)
