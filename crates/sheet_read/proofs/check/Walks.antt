-- What a run over the entries keeps, and what the pass that measures them keeps: the entries so far, and their values
-- measured.
use Prim.Native.Nat.{ℕ, zero, suc, ◌+◌, ◌-◌, ◌≤◌, ◌<◌}
use native.Mathlib.Nat.{zero-add}
use native.Mathlib.Omega.{arith}
use mathlib.Core.Path.{◌≡◌, refl, sym, ap, ◌∙◌}
use mathlib.Core.Bool.{Bool, true, false}
use mathlib.Core.List.{List, [], ◌∷◌, ◌++◌, append_assoc, append-nil}
use lib.ListN.{length, take, drop, length-append, length-take, length-drop}
use lib.Seq.{take-nil, take-append-add, drop-drop}
use Rattle.record.specs.Bytes.{join, number_at}
use Rattle.sheet_read.specs.declared.check.SheetExtent.{SheetExtent}
use Rattle.sheet.specs.Entries.{Entry, entry_bytes, body_bytes, entry_values, begins_entry, entry_in, entries_in}
use Rattle.sheet.specs.Sheet.{header_size, entries_end, entries_at}
use Rattle.sheet_read.specs.inside.check.{front_of, ExtentOf}
use Rattle.sheet.proofs.Entries.{begins, length-entry, entries_none, entries-more}
use Rattle.sheet.proofs.Tables.{values-append}

-- ---- entries one after the other

pub body_more : (w : ℕ) (es : List Entry) (e : Entry) → length (body_bytes w (es ++ (e ∷ []))) ≡ length (body_bytes w es) + length (entry_bytes w e)
unfolding body_bytes join
body_more w [] e = ap length (append-nil (entry_bytes w e)) ∙ sym (zero-add (length (entry_bytes w e)))
body_more w (d ∷ es) e =
    length-append (entry_bytes w d) (body_bytes w (es ++ (e ∷ []))) ∙ rw (body_more w es e, length-append (entry_bytes w d) (body_bytes w es)) (omega arith)

pub values-more : (es : List Entry) (e : Entry) → entry_values (es ++ (e ∷ [])) ≡ entry_values es ++ e.value
unfolding entry_values join
values-more es e = values-append es (e ∷ []) ∙ ap (λ (r : List ℕ). entry_values es ++ r) (append-nil e.value)

-- ---- the entry at a place

-- what the code knows of it
pub record There (w : ℕ) (sheet : List ℕ) (at : ℕ) (e : Entry) : Type 0 where
  pub some : 1 ≤ number_at w (drop at sheet) 0
  pub inside : at + (w + number_at w (drop at sheet) 0) ≤ length sheet
  pub long : length e.value ≡ number_at w (drop at sheet) 0 - 1

pub there : (w : ℕ) (sheet : List ℕ) (at : ℕ) → at ≤ length sheet → begins_entry w (drop at sheet) ≡ true → There w sheet at (entry_in w (drop at sheet))
unfolding entry_in
there w sheet at l h =
    let b = begins w (drop at sheet) h in
    record {
      some = b.some;
      inside = omega (arith, b.within, length-drop at sheet);
      long = b.long;
    }

-- ---- the run over the entries

-- the entries es lie before the place `at`
pub record Walked (w : ℕ) (sheet : List ℕ) (at : ℕ) (es : List Entry) : Type 0 where
  pub end : at ≡ header_size w + length (body_bytes w es)
  pub within : at ≤ length sheet
  pub same : es ++ entries_in w (drop at sheet) ≡ entries_at w sheet

pub walked_start : (w : ℕ) (sheet : List ℕ) → header_size w ≤ length sheet → Walked w sheet (header_size w) []
unfolding body_bytes join
walked_start w sheet h = record { end = omega arith; within = h; same = refl }

module _ {w : ℕ} {sheet : List ℕ} {at : ℕ} {es : List Entry} (k : Walked w sheet at es) where
  -- they are the first of the entries that are due
  pub walked-within : (most : ℕ) → length es ≤ most → es ++ take (most - length es) (entries_in w (drop at sheet)) ≡ front_of w most sheet
  walked-within most few =
      let sum : length es + (most - length es) ≡ most = omega arith in
      sym (take-append-add es (entries_in w (drop at sheet)) (most - length es)) ∙ rw (sum, k.same)

  -- and all of them where no more are due, or the next one is not whole
  pub walked-full : (most : ℕ) → length es ≡ most → es ≡ front_of w most sheet
  walked-full most full =
      let none : most - length es ≡ 0 = omega arith in
      sym (append-nil es) ∙ rw (← walked-within most (omega arith), none)

  pub walked-broken : (most : ℕ) → length es ≤ most → begins_entry w (drop at sheet) ≡ false → es ≡ front_of w most sheet
  walked-broken most few broken =
      sym (append-nil es) ∙ rw (← walked-within most few, entries_none w (drop at sheet) broken, take-nil (most - length es))

  -- and where there are more, the next one stands here
  pub walked-begins : length es < length (entries_at w sheet) → begins_entry w (drop at sheet) ≡ true
  walked-begins less = go (begins_entry w (drop at sheet)) refl
    where
      go : (t : Bool) → begins_entry w (drop at sheet) ≡ t → t ≡ true
      go true q = refl
      go false q = absurd (omega (arith, ap length k.same, length-append es (entries_in w (drop at sheet)), ap length (entries_none w (drop at sheet) q)))

  module _ (h : begins_entry w (drop at sheet) ≡ true) where
    pub walked-there : There w sheet at (entry_in w (drop at sheet))
    walked-there = there w sheet at k.within h

    pub walked_more : (n : ℕ) → n ≡ number_at w (drop at sheet) 0 → Walked w sheet (at + (w + n)) (es ++ (entry_in w (drop at sheet) ∷ []))
    walked_more n q =
        let e : Entry = entry_in w (drop at sheet) in
        let t = walked-there in
        let size : length (entry_bytes w e) ≡ w + suc (length e.value) = length-entry w e in
        let later : drop (w + number_at w (drop at sheet) 0) (drop at sheet) ≡ drop (at + (w + n)) sheet = rw (← q) (drop-drop (w + n) at sheet) in
        let first : entries_in w (drop at sheet) ≡ e ∷ entries_in w (drop (at + (w + n)) sheet) = entries-more w (drop at sheet) h ∙ ap (λ (r : List ℕ). e ∷ entries_in w r) later in
        record {
          end = omega (arith, body_more w es e, size, k.end, t.long, t.some, q);
          within = omega (arith, t.inside, q);
          same = append_assoc es (e ∷ []) (entries_in w (drop (at + (w + n)) sheet)) ∙ ap (λ (r : List Entry). es ++ r) (sym first) ∙ k.same;
        }

-- ---- the first pass

pub record Measuring (w : ℕ) (sheet : List ℕ) (most at entries values : ℕ) : Type 0 where
  pub es : List Entry
  pub walk : Walked w sheet at es
  pub count : entries ≡ length es
  pub few : entries ≤ most
  pub size : values ≡ length (entry_values es)
  pub small : entries + values ≤ at

pub measuring-start : (w : ℕ) (sheet : List ℕ) (most : ℕ) → header_size w ≤ length sheet → Measuring w sheet most (header_size w) 0 0
unfolding entry_values join
measuring-start w sheet most h = record { es = []; walk = walked_start w sheet h; count = refl; few = omega arith; size = refl; small = omega arith }

module _ {w : ℕ} {sheet : List ℕ} {most at entries values : ℕ} (m : Measuring w sheet most at entries values) where
  pub measuring-more : entries < most → begins_entry w (drop at sheet) ≡ true → (size : ℕ) → number_at w (drop at sheet) 0 ≡ size + 1
      → Measuring w sheet most (at + (suc w + size)) (entries + 1) (values + size)
  measuring-more due h size q =
      let e : Entry = entry_in w (drop at sheet) in
      let t = walked-there m.walk h in
      let next : w + number_at w (drop at sheet) 0 ≡ suc w + size = omega arith in
      let one : length (m.es ++ (e ∷ [])) ≡ length m.es + 1 = length-append m.es (e ∷ []) in
      let grown : length (entry_values (m.es ++ (e ∷ []))) ≡ length (entry_values m.es) + length e.value = ap length (values-more m.es e) ∙ length-append (entry_values m.es) e.value in
      record {
        es = m.es ++ (e ∷ []);
        walk = rw next at (walked_more m.walk h (number_at w (drop at sheet) 0) refl);
        count = omega (arith, one, m.count);
        few = omega (arith, due);
        size = omega (arith, grown, m.size, t.long, q);
        small = omega (arith, m.small);
      }

  measured : (n : ℕ) → n ≡ entries → m.es ≡ front_of w most sheet → ExtentOf w (front_of w most sheet) sheet (record { entries = n; values = values; end = at })
  unfolding entries_end
  measured n same all =
      record {
        entries = same ∙ m.count ∙ ap length all;
        values = m.size ∙ ap (λ (x : List Entry). length (entry_values x)) all;
        end = m.walk.end ∙ ap (λ (x : List Entry). header_size w + length (body_bytes w x)) all;
        within = m.walk.within;
        small = omega (arith, m.small);
      }

  pub measured-full : most ≤ entries → ExtentOf w (front_of w most sheet) sheet (record { entries = most; values = values; end = at })
  measured-full h = measured most (omega (arith, m.few)) (walked-full m.walk most (omega (arith, m.count, m.few)))

  pub measured-broken : begins_entry w (drop at sheet) ≡ false → ExtentOf w (front_of w most sheet) sheet (record { entries = entries; values = values; end = at })
  measured-broken h = measured entries refl (walked-broken m.walk most (omega (arith, m.count, m.few)) h)

-- ---- what the first pass answers

-- there are at least as many entries as the pass found, and these are the first ones
module _ {w : ℕ} {sheet : List ℕ} (most : ℕ) {x : SheetExtent} (m : ExtentOf w (front_of w most sheet) sheet x) where
  pub found-there : x.entries ≤ length (entries_at w sheet)
  found-there = omega (arith, m.entries, length-take most (entries_at w sheet))

  pub found_front : front_of w x.entries sheet ≡ front_of w most sheet
  found_front = ap (λ (n : ℕ). front_of w n sheet) m.entries ∙ again most (entries_at w sheet)
    where
      again : (n : ℕ) (es : List Entry) → take (length (take n es)) es ≡ take n es
      again zero es = refl
      again (suc n) [] = refl
      again (suc n) (e ∷ es) = ap (λ (r : List Entry). e ∷ r) (again n es)
