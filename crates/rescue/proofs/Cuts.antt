-- Laws of cut sheets over the width of a length: which entries are whole in the front of a run of entries.
use Rattle.std.specs.Prelude.{if◌then◌else◌}
use Prim.Native.Nat.{ℕ, zero, suc, ◌+◌, ◌-◌, ◌^◌, ◌≤◌, ◌<◌}
use native.Mathlib.Nat.{not-suc-le-zero, le_of_suc-le-suc}
use native.Mathlib.Omega.{arith}
use mathlib.Core.Path.{◌≡◌, refl, sym, ap, ◌∙◌}
use mathlib.Core.Bool.{Bool, true, false}
use mathlib.Core.List.{List, [], ◌∷◌, ◌++◌, append-nil}
use borrow.Author.Tests.{leb-true, leb-false, le-leb, lt-leb, ltb-true, ltb-false, lt-ltb, le-ltb}
use lib.Dec.{leb, ltb}
use lib.ListN.{length, take, length-append, length-take}
use lib.Seq.{take-append-le, take-append-add, take-take, take-nil}
use Rattle.record.specs.Bytes.{join, number_at}
use Rattle.record.proofs.Bytes.{drop-take}
use Rattle.sheet.specs.Entries.{Entry, entry_bytes, body_bytes, begins_entry, entries_in}
use Rattle.sheet.specs.Sheet.{header_size, sheet_bytes, entries_at, entries_end}
use Rattle.sheet.proofs.Entries.{AllSound, begins, length-entry, entry-number, entries_none, entries-in}
use Rattle.sheet.proofs.Sheets.{sheet-body}
use Rattle.rescue.specs.Claims.{end_by}

-- the number in front needs its own bytes alone
number_cut : (w k : ℕ) (bs : List ℕ) → w ≤ k → number_at w (take k bs) 0 ≡ number_at w bs 0
unfolding number_at
number_cut w k bs h = rw (take-take w k bs h)

module _ (w : ℕ) where
  -- no entry begins where the first was cut
  cut-begins : (e : Entry) (k : ℕ) → suc (length e.value) < 256 ^ w → k < length (entry_bytes w e) → begins_entry w (take k (entry_bytes w e)) ≡ false
  cut-begins e k short h = go (begins_entry w (take k (entry_bytes w e))) refl
    where
      go : (t : Bool) → begins_entry w (take k (entry_bytes w e)) ≡ t → t ≡ false
      go false q = refl
      go true q =
          let b = begins w (take k (entry_bytes w e)) q in
          let long : length (take k (entry_bytes w e)) ≤ k = rw length-take (omega arith) in
          let n : number_at w (take k (entry_bytes w e)) 0 ≡ suc (length e.value) =
          number_cut w k (entry_bytes w e) (omega (arith, b.within)) ∙ ap (λ (bs : List ℕ). number_at w bs 0) (sym (append-nil (entry_bytes w e))) ∙ entry-number w e [] short in
          absurd (omega (arith, b.within, length-entry w e))

  cut-body : (es : List Entry) (k : ℕ) → AllSound es → length (body_bytes w es) < 256 ^ w → entries_in w (take k (body_bytes w es)) ≡ take (end_by w k es) es
  unfolding body_bytes join end_by entries_in
  cut-body [] k s h = ap (entries_in w) (take-nil k)
  cut-body (e ∷ es) k s h = go (leb (length (entry_bytes w e)) k) refl (λ m. cut-body es m s.1 (omega (arith, h, size)))
    where
      size : length (entry_bytes w e ++ body_bytes w es) ≡ length (entry_bytes w e) + length (body_bytes w es)
      size = length-append (entry_bytes w e) (body_bytes w es)

      short : suc (length e.value) < 256 ^ w
      short = omega (arith, h, size, length-entry w e)

      go : (t : Bool) → leb (length (entry_bytes w e)) k ≡ t → ((m : ℕ) → entries_in w (take m (body_bytes w es)) ≡ take (end_by w m es) es)
          → entries_in w (take k (entry_bytes w e ++ body_bytes w es)) ≡ take (if t then suc (end_by w (k - length (entry_bytes w e)) es) else 0) (e ∷ es)
      go true q ih =
          let fits : length (entry_bytes w e) ≤ k = leb-true (length (entry_bytes w e)) k q in
          let rest : List ℕ = take (k - length (entry_bytes w e)) (body_bytes w es) in
          let sum : k ≡ length (entry_bytes w e) + (k - length (entry_bytes w e)) = omega arith in
          let split : take k (entry_bytes w e ++ body_bytes w es) ≡ entry_bytes w e ++ rest =
          ap (λ (n : ℕ). take n (entry_bytes w e ++ body_bytes w es)) sum ∙ take-append-add (entry_bytes w e) (body_bytes w es) (k - length (entry_bytes w e)) in
          let one : body_bytes w (e ∷ []) ≡ entry_bytes w e = append-nil (entry_bytes w e) in
          let first : entries_in w (entry_bytes w e ++ rest) ≡ e ∷ entries_in w rest =
          ap (λ (b : List ℕ). entries_in w (b ++ rest)) (sym one) ∙ entries-in w (e ∷ []) rest (s.0, tt) (rw one (omega (arith, short, h, size))) in
          ap (entries_in w) split ∙ first ∙ ap (λ (r : List Entry). e ∷ r) (ih (k - length (entry_bytes w e)))
      go false q ih =
          let less : k < length (entry_bytes w e) = leb-false (length (entry_bytes w e)) k q in
          ap (entries_in w) (take-append-le k (entry_bytes w e) (body_bytes w es) (omega arith)) ∙ entries_none w (take k (entry_bytes w e)) (cut-begins e k short less)

  -- ---- which they are

  end-few : (k : ℕ) (es : List Entry) → end_by w k es ≤ length es
  unfolding end_by
  end-few k [] = omega arith
  end-few k (e ∷ es) = go (leb (length (entry_bytes w e)) k) (end-few (k - length (entry_bytes w e)) es)
    where
      go : (t : Bool) → end_by w (k - length (entry_bytes w e)) es ≤ length es → (if t then suc (end_by w (k - length (entry_bytes w e)) es) else 0) ≤ suc (length es)
      go true h = omega arith
      go false h = omega arith

  module _ (e : Entry) (es : List Entry) where
    body-first : length (body_bytes w (e ∷ es)) ≡ length (entry_bytes w e) + length (body_bytes w es)
    unfolding body_bytes join
    body-first = length-append (entry_bytes w e) (body_bytes w es)

  -- entry i is one of them exactly where it ends within the k bytes
  end_by_lem : (k i : ℕ) (es : List Entry) → i < length es → ltb i (end_by w k es) ≡ leb (length (body_bytes w (take (suc i) es))) k
  unfolding end_by body_bytes join
  end_by_lem k i [] h = absurd (not-suc-le-zero h)
  end_by_lem k zero (e ∷ es) h = rw body-first (go (leb (length (entry_bytes w e)) k) refl)
    where
      go : (t : Bool) → leb (length (entry_bytes w e)) k ≡ t → ltb 0 (if t then suc (end_by w (k - length (entry_bytes w e)) es) else 0) ≡ leb (length (entry_bytes w e) + length (body_bytes w [])) k
      go true q = lt-ltb 0 (suc (end_by w (k - length (entry_bytes w e)) es)) (omega arith) ∙ sym (le-leb (length (entry_bytes w e) + 0) k (omega (arith, leb-true (length (entry_bytes w e)) k q)))
      go false q = le-ltb 0 0 (omega arith) ∙ sym (lt-leb (length (entry_bytes w e) + 0) k (omega (arith, leb-false (length (entry_bytes w e)) k q)))
  end_by_lem k (suc i) (e ∷ es) h = rw body-first (go (leb (length (entry_bytes w e)) k) refl (end_by_lem (k - length (entry_bytes w e)) i es (le_of_suc-le-suc h)))
    where
      -- an entry further on ends so much later
      shift : length (entry_bytes w e) ≤ k → (t : Bool)
          → leb (length (body_bytes w (take (suc i) es))) (k - length (entry_bytes w e)) ≡ t
          → t ≡ leb (length (entry_bytes w e) + length (body_bytes w (take (suc i) es))) k
      shift l true q =
          sym (le-leb (length (entry_bytes w e) + length (body_bytes w (take (suc i) es))) k
          (omega (arith, l, leb-true (length (body_bytes w (take (suc i) es))) (k - length (entry_bytes w e)) q)))
      shift l false q =
          sym (lt-leb (length (entry_bytes w e) + length (body_bytes w (take (suc i) es))) k
          (omega (arith, l, leb-false (length (body_bytes w (take (suc i) es))) (k - length (entry_bytes w e)) q)))

      step : (n : ℕ) (t : Bool) → ltb i n ≡ t → ltb (suc i) (suc n) ≡ t
      step n true q = lt-ltb (suc i) (suc n) (omega (arith, ltb-true i n q))
      step n false q = le-ltb (suc i) (suc n) (omega (arith, ltb-false i n q))

      go : (t : Bool) → leb (length (entry_bytes w e)) k ≡ t → ltb i (end_by w (k - length (entry_bytes w e)) es) ≡ leb (length (body_bytes w (take (suc i) es))) (k - length (entry_bytes w e))
          → ltb (suc i) (if t then suc (end_by w (k - length (entry_bytes w e)) es) else 0) ≡ leb (length (entry_bytes w e) + length (body_bytes w (take (suc i) es))) k
      go true q ih = step _ _ ih ∙ shift (leb-true _ k q) _ refl
      go false q ih = le-ltb (suc i) 0 (omega arith) ∙ sym (lt-leb (length (entry_bytes w e) + length (body_bytes w (take (suc i) es))) k (omega (arith, leb-false (length (entry_bytes w e)) k q)))

  -- ---- the same of a whole sheet

  module _ (v : ℕ) (es : List Entry) (sound : AllSound es) (short : length (body_bytes w es) < 256 ^ w) (k : ℕ) where
    unfoldable pub whole_by : ℕ
    whole_by = end_by w (k - header_size w) es

    pub whole-few : whole_by ≤ length es
    unfolding whole_by
    whole-few = end-few (k - header_size w) es

    pub cut-entries : entries_at w (take k (sheet_bytes v w es)) ≡ take whole_by es
    unfolding whole_by
    cut-entries =
        ap (entries_in w) (drop-take (header_size w) k (sheet_bytes v w es) ∙ ap (take (k - header_size w)) (sheet-body v w es))
        ∙ cut-body es (k - header_size w) sound short

    pub cut-exactly : (i : ℕ) → i < length es → ltb i whole_by ≡ leb (entries_end w (take (suc i) es)) k
    unfolding whole_by entries_end
    cut-exactly i h = end_by_lem (k - header_size w) i es h ∙ go (leb (length (body_bytes w (take (suc i) es))) (k - header_size w)) refl
      where
        some : (es : List Entry) → i < length es → 1 ≤ length (body_bytes w (take (suc i) es))
        some [] l = absurd (not-suc-le-zero l)
        some (e ∷ es) l = rw body-first (omega (arith, length-entry w e))

        go : (t : Bool) → leb (length (body_bytes w (take (suc i) es))) (k - header_size w) ≡ t → t ≡ leb (header_size w + length (body_bytes w (take (suc i) es))) k
        go true q = sym (le-leb (header_size w + length (body_bytes w (take (suc i) es))) k (omega (arith, some es h, leb-true (length (body_bytes w (take (suc i) es))) (k - header_size w) q)))
        go false q = sym (lt-leb (header_size w + length (body_bytes w (take (suc i) es))) k (omega (arith, leb-false (length (body_bytes w (take (suc i) es))) (k - header_size w) q)))
