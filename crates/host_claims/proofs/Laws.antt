-- What the claims share. A call on whole slots with a reply of its size is the call on their numbers; numbers below
-- 2^32 come back from their bytes, in a reply and in the slots that a call leaves.
use Rattle.std.specs.Prelude.{if◌then◌else◌}
use Prim.Native.Nat.{ℕ, zero, suc, ◌*◌, ◌/◌, ◌%◌, ◌^◌, ◌≤◌, ◌<◌}
use native.Mathlib.Nat.{pow-le-pow_right}
use native.Mathlib.Omega.{arith}
use mathlib.Core.Path.{◌≡◌, refl, sym, ap, ◌∙◌}
use mathlib.Core.Bool.{Bool, true, false}
use mathlib.Core.List.{List, [], ◌∷◌, ◌++◌, map}
use borrow.Author.Tests.{eq-eqb, eqb-true, eqb-false}
use lib.Dec.{eqb}
use lib.ListN.{length, take, drop, get_or, length-take, length-append, take-append-drop}
use lib.Seq.{drop-cons, take_at, take_all, length-take-le}
use Rattle.record.specs.Bytes.{pieces, join, number, ordered, number_bytes, number_at, big_endian, big_endian_in}
use Rattle.record.specs.Table.{number_limit, slot_width}
use Rattle.record.specs.Packing.{Packed, pack}
use Rattle.record.specs.Reading.{read_all}
use Rattle.record.proofs.Bytes.{All, all-below, length-ordered, all_append, all-ordered, all_take, all_drop}
use Rattle.runs.proofs.Told.{numbers-bytes}
use Rattle.record.proofs.Widening.{number-below}
use Rattle.record.proofs.Fields.{split}
use Rattle.sheet.specs.Sheet.{write_sheet, read_sheet}
use Rattle.sheet.proofs.Entries.{number_in as front-number, length-here}
use Rattle.rescue.specs.Rescue.{rescue}
use Rattle.host.specs.Numbers.{number_size, numbers_in, numbers_bytes}
use Rattle.host.proofs.numbers.NumberLaws.{length-bytes_of, length-numbers_in, bytes_drop}
use Rattle.host.proofs.numbers.Claims.{numbers-of-bytes, numbers-joined}
use Rattle.host.specs.Host.{slot_size, reply_size, long_reply_size, reply_of, pack_call, read_call}
use Rattle.host_record.specs.Packing.{curlew_pack}
use Rattle.host_record.specs.Reading.{steps_call, curlew_read}
use Rattle.host_sheet.specs.Writing.{curlew_sheet_write}
use Rattle.host_sheet.specs.Reading.{curlew_sheet_read}
use Rattle.host_sheet.specs.Rescuing.{rescue_reply_size, rescue_call, curlew_sheet_rescue}
use Rattle.host_claims.specs.Seen.{Slots, Lends, first_slots, replied, result_in}
use Rattle.host_claims.specs.Agreeing.{Agrees}

-- ---- the calls on whole slots

module _ (slots reply : List ℕ) where
  pub pack-served : (layout area output : List ℕ) → Lends slots reply reply_size
      → curlew_pack layout slots area output reply ≡ pack_call (pack layout (numbers_in slots) area output)
  unfolding curlew_pack
  pack-served layout area output l =
      rw (eq-eqb (length reply) reply_size l.reply-size, eq-eqb (length slots % slot_size) 0 l.are-slots.whole)

  pub read-served : (layout bytes area : List ℕ) (mark : ℕ) → Lends slots reply long_reply_size
      → curlew_read layout bytes slots area mark reply
      ≡ steps_call slots (read_all layout bytes (numbers_in slots) area mark)
  unfolding curlew_read
  read-served layout bytes area mark l =
      rw (eq-eqb (length reply) long_reply_size l.reply-size, eq-eqb (length slots % slot_size) 0 l.are-slots.whole)

  pub write-served : (area buffer : List ℕ) → Lends slots reply reply_size
      → curlew_sheet_write slots area buffer reply ≡ pack_call (write_sheet (numbers_in slots) area buffer)
  unfolding curlew_sheet_write
  write-served area buffer l =
      rw (eq-eqb (length reply) reply_size l.reply-size, eq-eqb (length slots % slot_size) 0 l.are-slots.whole)

  pub sheet-served : (sheet area : List ℕ) (mark : ℕ) → Lends slots reply reply_size
      → curlew_sheet_read sheet slots area mark reply ≡ read_call slots (read_sheet sheet (numbers_in slots) area mark)
  unfolding curlew_sheet_read
  sheet-served sheet area mark l =
      rw (eq-eqb (length reply) reply_size l.reply-size, eq-eqb (length slots % slot_size) 0 l.are-slots.whole)

  pub rescue-served : (sheet : List ℕ) (legs : ℕ) (area : List ℕ) (mark : ℕ) → Lends slots reply rescue_reply_size
      → curlew_sheet_rescue sheet legs slots area mark reply
      ≡ rescue_call slots (rescue sheet legs (numbers_in slots) area mark)
  unfolding curlew_sheet_rescue
  rescue-served sheet legs area mark l =
      rw
      (eq-eqb (length reply) rescue_reply_size l.reply-size, eq-eqb (length slots % slot_size) 0 l.are-slots.whole)

-- ---- numbers below 2^32

abbrev pub Small : List ℕ → Type 0
Small xs = All (λ x. x < number_limit) xs

below_all : {b : ℕ} (xs : List ℕ) → 0 < b → All (λ x. x < b) xs → (i : ℕ) → get_or xs i 0 < b
below_all [] h all i = h
below_all (x ∷ xs) h all zero = all.0
below_all (x ∷ xs) h all (suc i) = below_all xs h all.1 i

pub numbers-kept : (xs : List ℕ) → Small xs → numbers_in (numbers_bytes xs) ≡ xs
numbers-kept xs small = numbers-of-bytes xs (below_all xs (omega arith) small)

-- number i of a reply
pub replied-number : (xs : List ℕ) (i : ℕ) → i < length xs → get_or xs i 0 < number_limit
    → replied i (numbers_bytes xs) ≡ get_or xs i 0
unfolding numbers_bytes big_endian join
replied-number xs i inside small =
    let here : drop (i * number_size) (numbers_bytes xs) ≡ number_bytes number_size (get_or xs i 0) ++ numbers_bytes (drop (suc i) xs) =
    sym (bytes_drop i xs) ∙ ap numbers_bytes (drop-cons xs i 0 inside) in
    length-here number_size (numbers_bytes xs) (i * number_size) refl
    ∙ ap (λ (bs : List ℕ). number_at number_size bs 0) here
    ∙ front-number number_size (get_or xs i 0) (numbers_bytes (drop (suc i) xs)) small

-- what a call that fills a buffer left at its front
pub result-is : (p : Packed) → p.answer.first < number_limit
    → result_in (pack_call p) ≡ take p.answer.first p.output
unfolding pack_call reply_of
result-is p small =
    ap (λ (n : ℕ). take n p.output)
    (replied-number (p.answer.number ∷ p.answer.first ∷ p.answer.second ∷ []) 1 (omega arith) small)

-- ---- bytes

-- four bytes make a number below 2^32
piece-small : (p : List ℕ) → length p ≤ number_size → All (λ b. b < 256) p → number 256 (ordered true p) < number_limit
piece-small p few below =
    let one : number 256 (ordered true p) < 256 ^ length (ordered true p) =
    number-below 256 (ordered true p) (all-ordered (λ b. b < 256) true p below) in
    let less : length (ordered true p) ≤ number_size = rw (length-ordered true p) few in
    let most : 256 ^ length (ordered true p) ≤ 256 ^ number_size = pow-le-pow_right (omega arith) less in
    omega arith

pieces-small : (n : ℕ) (bs : List ℕ) → All (λ b. b < 256) bs
    → Small (map (λ p. number 256 (ordered true p)) (pieces number_size n bs))
unfolding pieces
pieces-small zero bs below = tt
pieces-small (suc n) bs below = (
  piece-small (take number_size bs) (rw length-take (omega arith)) (all_take (λ b. b < 256) number_size bs below),
  pieces-small n (drop number_size bs) (all_drop (λ b. b < 256) number_size bs below),
)

pub numbers-small : (bs : List ℕ) → ((i : ℕ) → get_or bs i 0 < 256) → Small (numbers_in bs)
unfolding numbers_in big_endian_in
numbers-small bs below = pieces-small (length bs / number_size) bs (all-below bs below)

-- what numbers are stored as are bytes
are-bytes : (xs : List ℕ) → All (λ b. b < 256) (numbers_bytes xs)
unfolding numbers_bytes
are-bytes xs = numbers-bytes number_size xs

-- ---- slots to lend

pub slots-first : (n : ℕ) (slots : List ℕ) → Slots slots → Slots (first_slots n slots)
slots-first n slots s = record {
  whole =
      split (slot_size * n) (length slots) (λ h. rw (length-take-le (slot_size * n) slots h) (omega arith))
      (λ h. rw (take_all (slot_size * n) slots (omega arith)) s.whole);
  bytes =
      below_all (first_slots n slots) (omega arith)
      (all_take (λ b. b < 256) (slot_size * n) slots (all-below slots s.bytes));
}

pub slots-both : (slots more : List ℕ) → Slots slots → Slots more → Slots (slots ++ more)
slots-both slots more s m = record {
  whole = rw length-append (omega (arith, s.whole, m.whole));
  bytes =
      below_all (slots ++ more) (omega arith)
      (all_append (λ b. b < 256) slots more (all-below slots s.bytes) (all-below more m.bytes));
}

pub numbers-both : (slots more : List ℕ) → Slots slots → numbers_in (slots ++ more) ≡ numbers_in slots ++ numbers_in more
numbers-both slots more s = numbers-joined slots more (omega (arith, s.whole))

pub numbers-first : (n : ℕ) (slots : List ℕ) → numbers_in (first_slots n slots) ≡ take (slot_width * n) (numbers_in slots)
numbers-first n slots =
    split (slot_size * n) (length slots)
    (λ h. let long : length (first_slots n slots) ≡ slot_size * n = length-take-le (slot_size * n) slots h in
    let joined : numbers_in slots ≡ numbers_in (first_slots n slots) ++ numbers_in (drop (slot_size * n) slots) =
    ap numbers_in (sym (take-append-drop (slot_size * n) slots))
    ∙ numbers-joined (first_slots n slots) (drop (slot_size * n) slots) (omega arith) in
    rw joined (sym (take_at (numbers_in (first_slots n slots)) _ (slot_width * n) (rw length-numbers_in (omega arith)))))
    (λ h. rw (take_all (slot_size * n) slots (omega arith))
    (sym (take_all (slot_width * n) (numbers_in slots) (rw length-numbers_in (omega arith)))))

-- ---- slots that a call leaves

module _ (slots : List ℕ) (s : Slots slots) (after : List ℕ) where
  -- the bytes of the numbers that it set and left, where it is accepted, and else those that were lent
  by_answer : (t : Bool) → (t ≡ true → Small after × (length after ≡ length (numbers_in slots)))
      → (t ≡ false → after ≡ numbers_in slots)
      → Agrees slots (if t then numbers_bytes after else slots) after
  by_answer true set left =
      let small : Small after = (set refl).0 in
      let long : length (numbers_bytes after) ≡ length slots =
      rw (length-bytes_of, (set refl).1, length-numbers_in) (omega (arith, s.whole)) in
      record {
        same = numbers-kept after small;
        slots =
            record { whole = rw long s.whole; bytes = below_all (numbers_bytes after) (omega arith) (are-bytes after) };
        as_many = long;
      }
  by_answer false set left = record { same = sym (left refl); slots = s; as_many = refl }

  pub agree : (number : ℕ) → (number ≡ 0 → Small after × (length after ≡ length (numbers_in slots)))
      → ((number ≡ 0 → ⊥) → after ≡ numbers_in slots)
      → Agrees slots (if eqb number 0 then numbers_bytes after else slots) after
  agree number set left = by_answer (eqb number 0) (λ e. set (eqb-true number 0 e)) (λ e. left (eqb-false number 0 e))
