-- Laws of entries over the width of a length: from entries to bytes and back, and from bytes to entries and back.
use Prim.Native.Nat.{ℕ, zero, suc, ◌+◌, ◌-◌, ◌^◌, ◌≤◌, ◌<◌}
use native.Mathlib.Nat.{mod-eq_of_lt, not-suc-le-zero}
use native.Mathlib.Numerals.{add-one}
use native.Mathlib.Omega.{arith}
use mathlib.Core.Path.{◌≡◌, refl, sym, ap, ◌∙◌}
use mathlib.Core.Bool.{Bool, true, false}
use mathlib.Core.List.{List, [], ◌∷◌, ◌++◌, append_assoc}
use borrow.Author.Tests.{le-leb, leb-true}
use lib.Dec.{leb}
use lib.ListN.{length, take, drop, get_or, length-append, length-drop, length-reverse, take-append-drop}
use lib.Seq.{take_at, drop_at, get_or_at, take-nil, drop-drop, drop-cons, take-add, length-take-le}
use Rattle.record.specs.Bytes.{part, join, digits, number, ordered, number_bytes, number_at}
use Rattle.record.specs.Table.{max_kind}
use Rattle.record.proofs.Bytes.{All, all_take, all-ordered, all_drop, and-true, digits_number, ordered-ordered}
use Rattle.record.proofs.Fields.{item, number-item}
use Rattle.record.proofs.NumberLaws.{length-number_bytes}
use Rattle.record.proofs.Widening.{number-below}
use Rattle.record.proofs.Stores.{length_part}
use Rattle.sheet.specs.Entries.{Entry, whole_items, entry_bytes, body_bytes, begins_entry, entry_in, entries_from, entries_in}

-- ---- numbers

-- a number comes back from its bytes, and bytes from their number
pub number_in : (w x : ℕ) (rest : List ℕ) → x < 256 ^ w → number_at w (number_bytes w x ++ rest) 0 ≡ x
unfolding number_bytes number_at item
number_in w x rest h =
    ap (λ (l : List ℕ). number 256 (ordered true l)) (take_at (number_bytes w x) rest w (length-number_bytes w x))
    ∙ number-item w true x ∙ mod-eq_of_lt h

pub bytes-in : (w : ℕ) (bs : List ℕ) → w ≤ length bs → All (λ d. d < 256) bs → number_bytes w (number_at w bs 0) ≡ take w bs
unfolding number_bytes number_at
bytes-in w bs h all =
    let ds : List ℕ = ordered true (take w bs) in
    let long : length ds ≡ w = length-reverse (take w bs) ∙ length-take-le w bs h in
    let back : digits 256 w (number 256 ds) ≡ ds = rw long at (digits_number 256 ds (all-ordered (λ d. d < 256) true (take w bs) (all_take (λ d. d < 256) w bs all))) in
    ap (ordered true) back ∙ ordered-ordered true (take w bs)

pub number_small : (w : ℕ) (bs : List ℕ) → w ≤ length bs → All (λ d. d < 256) bs → number_at w bs 0 < 256 ^ w
unfolding number_at
number_small w bs h all =
    let ds : List ℕ = ordered true (take w bs) in
    let long : length ds ≡ w = length-reverse (take w bs) ∙ length-take-le w bs h in
    rw long at (number-below 256 ds (all-ordered (λ d. d < 256) true (take w bs) (all_take (λ d. d < 256) w bs all)))

pub number-none : (w : ℕ) → number_at w [] 0 ≡ 0
unfolding number_at number
number-none w = rw take-nil

-- ---- an entry at the front

-- what the test says
pub record Begins (w : ℕ) (bs : List ℕ) : Type 0 where
  pub some : 1 ≤ number_at w bs 0
  pub within : w + number_at w bs 0 ≤ length bs
  pub kind : get_or bs w 0 ≤ max_kind
  pub whole : whole_items (get_or bs w 0) (number_at w bs 0 - 1) ≡ true
  pub long : length (entry_in w bs).value ≡ number_at w bs 0 - 1

pub begins : (w : ℕ) (bs : List ℕ) → begins_entry w bs ≡ true → Begins w bs
unfolding begins_entry entry_in
begins w bs h =
    let n = number_at w bs 0 in
    let k = get_or bs w 0 in
    let a = and-true _ (whole_items k (n - 1)) h in
    let b = and-true _ (leb k max_kind) a.0 in
    let c = and-true _ (leb n (length bs - w)) b.0 in
    let d = and-true (leb w (length bs)) (leb 1 n) c.0 in
    let here : w ≤ length bs = leb-true w (length bs) d.0 in
    let some : 1 ≤ n = leb-true 1 n d.1 in
    let rest : n ≤ length bs - w = leb-true n (length bs - w) c.1 in
    record {
      some = some;
      within = omega arith;
      kind = leb-true k max_kind b.1;
      whole = a.1;
      long = length_part (n - 1) (suc w) bs (omega arith);
    }

pub begin : (w : ℕ) (bs : List ℕ) (n k : ℕ) → number_at w bs 0 ≡ n → get_or bs w 0 ≡ k → 1 ≤ n → w + n ≤ length bs → k ≤ max_kind → whole_items k (n - 1) ≡ true → begins_entry w bs ≡ true
unfolding begins_entry
begin w bs n k e f some within kind whole =
    let here : w ≤ length bs = omega arith in
    let rest : n ≤ length bs - w = omega arith in
    rw (e, f, whole, le-leb w (length bs) here, le-leb 1 n some, le-leb n (length bs - w) rest, le-leb k max_kind kind)

-- ---- an entry from its bytes

-- of a known kind, with whole items
pub record Sound (e : Entry) : Type 0 where
  pub kind : e.kind ≤ max_kind
  pub whole : whole_items e.kind (length e.value) ≡ true

abbrev pub AllSound : List Entry → Type 0
AllSound [] = Unit {0}
AllSound (e ∷ es) = Sound e × AllSound es

pub length-entry : (w : ℕ) (e : Entry) → length (entry_bytes w e) ≡ w + suc (length e.value)
unfolding entry_bytes
length-entry w e = length-append (number_bytes w (suc (length e.value))) (e.kind ∷ e.value) ∙ rw length-number_bytes

module _ (w : ℕ) (e : Entry) (rest : List ℕ) (short : suc (length e.value) < 256 ^ w) where
  less : suc (length e.value) - 1 ≡ length e.value
  less = omega arith

  front : List ℕ
  front = number_bytes w (suc (length e.value))

  split : entry_bytes w e ++ rest ≡ front ++ (e.kind ∷ (e.value ++ rest))
  unfolding entry_bytes front
  split = append_assoc (number_bytes w (suc (length e.value))) (e.kind ∷ e.value) rest

  pub entry-number : number_at w (entry_bytes w e ++ rest) 0 ≡ suc (length e.value)
  unfolding front
  entry-number = ap (λ (l : List ℕ). number_at w l 0) split ∙ number_in w (suc (length e.value)) (e.kind ∷ (e.value ++ rest)) short

  entry-kind : get_or (entry_bytes w e ++ rest) w 0 ≡ e.kind
  unfolding front
  entry-kind = ap (λ (l : List ℕ). get_or l w 0) split ∙ get_or_at (number_bytes w (suc (length e.value))) e.kind (e.value ++ rest) 0 w (length-number_bytes w _)

  pub entry-begins : Sound e → begins_entry w (entry_bytes w e ++ rest) ≡ true
  entry-begins s =
      let long : length (entry_bytes w e ++ rest) ≡ w + suc (length e.value) + length rest = length-append (entry_bytes w e) rest ∙ rw length-entry in
      begin w (entry_bytes w e ++ rest) (suc (length e.value)) e.kind entry-number entry-kind (omega arith) (omega arith) s.kind (rw less s.whole)

  entry_value : part (entry_bytes w e ++ rest) (suc w) (length e.value) ≡ e.value
  unfolding front
  entry_value =
      let at : drop w (entry_bytes w e ++ rest) ≡ e.kind ∷ (e.value ++ rest) = ap (drop w) split ∙ drop_at (number_bytes w (suc (length e.value))) _ w (length-number_bytes w _) in
      let past : drop (suc w) (entry_bytes w e ++ rest) ≡ e.value ++ rest = rw (← add-one w, ← drop-drop 1 w (entry_bytes w e ++ rest), at) in
      ap (take (length e.value)) past ∙ take_at e.value rest (length e.value) refl

  pub entry_in_lem : entry_in w (entry_bytes w e ++ rest) ≡ e
  unfolding entry_in
  entry_in_lem = rw (entry-number, entry-kind, less, entry_value)

-- a length out of its bytes
pub length-here : (w : ℕ) (bs : List ℕ) (at : ℕ) {n : ℕ} → n ≡ number_at w bs at → n ≡ number_at w (drop at bs) 0
unfolding number_at
length-here w bs at e = e

-- ---- one step of the parse

entries-skip : (w n : ℕ) (bs : List ℕ) → entries_from w n bs ≡ entries_in w (drop n bs)
unfolding entries_from entries_in
entries-skip w zero bs = refl
entries-skip w (suc n) [] = refl
entries-skip w (suc n) (b ∷ bs) = entries-skip w n bs

pub entries_none : (w : ℕ) (bs : List ℕ) → begins_entry w bs ≡ false → entries_in w bs ≡ []
unfolding entries_from entries_in
entries_none w [] h = refl
entries_none w (b ∷ bs) h = rw h

pub entries-more : (w : ℕ) (bs : List ℕ) → begins_entry w bs ≡ true → entries_in w bs ≡ entry_in w bs ∷ entries_in w (drop (w + number_at w bs 0) bs)
unfolding entries_from entries_in
entries-more w [] h = let b = begins w [] h in absurd (not-suc-le-zero (rw number-none at b.some))
entries-more w (b ∷ bs) h =
    let k = begins w (b ∷ bs) h in
    let size : w + number_at w (b ∷ bs) 0 ≡ suc (w + length (entry_in w (b ∷ bs)).value) = omega (arith, k.some, k.long) in
    rw (h, size) (ap (λ (r : List Entry). entry_in w (b ∷ bs) ∷ r) (entries-skip w (w + length (entry_in w (b ∷ bs)).value) bs))

-- what holds where no entry begins, and before an entry where it holds after it, holds everywhere
pub by_entries : (w : ℕ) (P : List ℕ → Type 0) → ((bs : List ℕ) → begins_entry w bs ≡ false → P bs)
    → ((bs : List ℕ) → begins_entry w bs ≡ true → P (drop (w + number_at w bs 0) bs) → P bs) → (bs : List ℕ) → P bs
by_entries w P none more bs = go (length bs) bs (omega arith)
  where
    go : (m : ℕ) (bs : List ℕ) → length bs ≤ m → P bs
    go zero bs h = by (begins_entry w bs) refl
      where
        by : (t : Bool) → begins_entry w bs ≡ t → P bs
        by true e = let b = begins w bs e in absurd (omega (arith, h, b.some, b.within))
        by false e = none bs e
    go (suc m) bs h = by (λ k. go m (drop (w + number_at w bs 0) bs) k) (begins_entry w bs) refl
      where
        by : (length (drop (w + number_at w bs 0) bs) ≤ m → P (drop (w + number_at w bs 0) bs)) → (t : Bool) → begins_entry w bs ≡ t → P bs
        by ih true e = let b = begins w bs e in more bs e (ih (rw length-drop (omega (arith, h, b.some, b.within))))
        by ih false e = none bs e

-- ---- from entries to bytes and back

module _ (w : ℕ) where
  -- the entries come back, also where more bytes follow
  pub entries-in : (es : List Entry) (rest : List ℕ) → AllSound es → length (body_bytes w es) < 256 ^ w → entries_in w (body_bytes w es ++ rest) ≡ es ++ entries_in w rest
  unfolding body_bytes join
  entries-in [] rest s h = refl
  entries-in (e ∷ es) rest s h =
      let more : List ℕ = body_bytes w es ++ rest in
      let size : length (entry_bytes w e ++ body_bytes w es) ≡ w + suc (length e.value) + length (body_bytes w es) = length-append (entry_bytes w e) (body_bytes w es) ∙ rw length-entry in
      let short : suc (length e.value) < 256 ^ w = omega (arith, h) in
      let split : body_bytes w (e ∷ es) ++ rest ≡ entry_bytes w e ++ more = append_assoc (entry_bytes w e) (body_bytes w es) rest in
      let past : drop (w + number_at w (entry_bytes w e ++ more) 0) (entry_bytes w e ++ more) ≡ more = drop_at
      (entry_bytes w e) more (w + number_at w (entry_bytes w e ++ more) 0) (rw (entry-number w e more short)
      (length-entry w e)) in
      ap (entries_in w) split
      ∙ entries-more w (entry_bytes w e ++ more) (entry-begins w e more short s.0)
      ∙ rw (entry_in_lem w e more short, past) (ap (λ (r : List Entry). e ∷ r) (entries-in es rest s.1 (omega (arith, h))))

  -- ---- from bytes to entries and back

  pub entry-sound : (bs : List ℕ) → begins_entry w bs ≡ true → Sound (entry_in w bs)
  unfolding entry_in
  entry-sound bs h = let b = begins w bs h in record { kind = b.kind; whole = rw b.long b.whole }

  pub entries-sound : (bs : List ℕ) → AllSound (entries_in w bs)
  entries-sound = by_entries w (λ bs. AllSound (entries_in w bs)) (λ bs h. rw (entries_none w bs h) tt) (λ bs h k. rw (entries-more w bs h) (entry-sound bs h, k))

  -- an entry has a byte at least
  pub entries-few : (bs : List ℕ) → length (entries_in w bs) ≤ length bs
  entries-few =
      by_entries w (λ bs. length (entries_in w bs) ≤ length bs) (λ bs h. rw (entries_none w bs h) (omega arith))
      (λ bs h k. let b = begins w bs h in rw (entries-more w bs h) (omega (arith, k, length-drop (w + number_at w bs 0) bs, b.some, b.within)))

  entry-back : (bs : List ℕ) → All (λ d. d < 256) bs → begins_entry w bs ≡ true → entry_bytes w (entry_in w bs) ≡ take (w + number_at w bs 0) bs
  unfolding entry_bytes entry_in
  entry-back bs all h =
      let b = begins w bs h in
      let n : ℕ = number_at w bs 0 in
      let m : suc (length (entry_in w bs).value) ≡ n = omega (arith, b.some, b.long) in
      let here : w < length bs = omega (arith, b.some, b.within) in
      let kind : drop w bs ≡ get_or bs w 0 ∷ drop (suc w) bs = drop-cons bs w 0 here in
      let one : n ≡ suc (n - 1) = omega (arith, b.some) in
      let rest : take n (drop w bs) ≡ get_or bs w 0 ∷ part bs (suc w) (n - 1) = rw kind (ap (λ (i : ℕ). take i (get_or bs w 0 ∷ drop (suc w) bs)) one) in
      rw (m, bytes-in w bs (omega arith) all) (sym (take-add w n bs ∙ ap (λ (r : List ℕ). take w bs ++ r) rest))

  -- the entries that were found stand in front, byte for byte
  pub body_back : (bs : List ℕ) → All (λ d. d < 256) bs → body_bytes w (entries_in w bs) ++ drop (length (body_bytes w (entries_in w bs))) bs ≡ bs
  unfolding body_bytes join
  body_back =
      by_entries w (λ bs. All (λ d. d < 256) bs → body_bytes w (entries_in w bs) ++ drop (length (body_bytes w (entries_in w bs))) bs ≡ bs)
      (λ bs h all. rw (entries_none w bs h))
      (λ bs h ih all.
      let b = begins w bs h in
      let size : ℕ = w + number_at w bs 0 in
      let later : List ℕ = body_bytes w (entries_in w (drop size bs)) in
      let first : entry_bytes w (entry_in w bs) ≡ take size bs = entry-back bs all h in
      let long : length (take size bs ++ later) ≡ size + length later = length-append (take size bs) later ∙ ap (λ (n : ℕ). n + length later) (length-take-le size bs b.within) in
      rw (entries-more w bs h, first, long, ← drop-drop (length later) size bs)
      (append_assoc (take size bs) later (drop (length later) (drop size bs))
      ∙ ap (λ (r : List ℕ). take size bs ++ r) (ih (all_drop (λ d. d < 256) size bs all)) ∙ take-append-drop size bs))
