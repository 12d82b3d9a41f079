-- What each way out of a call leaves is what the definition gives.
use Rattle.std.specs.Prelude.{if◌then◌else◌}
use Prim.Native.Nat.{ℕ, ◌+◌, ◌*◌, ◌/◌, ◌%◌, ◌≤◌, ◌<◌, min}
use native.Mathlib.Nat.{zero-add, mul_comm}
use native.Mathlib.Omega.{arith}
use mathlib.Core.Path.{◌≡◌, refl, sym, ap, ◌∙◌, subst}
use mathlib.Core.Bool.{Bool, true, false}
use mathlib.Core.List.{List, ◌++◌}
use borrow.Author.Tests.{eq-eqb, ne_eqb, eqb-true, eqb-false}
use lib.Dec.{eqb}
use lib.ListN.{length, take, drop, take-append-drop}
use lib.Seq.{take_at, length-take-le}
use Rattle.layout.specs.declared.Refusal.{Refusal}
use Rattle.layout.specs.declared.Refusal.TheVariants.{BadSize}
use Rattle.layout.specs.Refusals.{number_of, Result, ok, refused, ◌>>=◌, demand}
use Rattle.layout.proofs.Laws.{no-number-zero}
use Rattle.record.specs.declared.Answer.{Answer}
use Rattle.record.specs.Bytes.{store_at}
use Rattle.record.specs.Table.{max_slots, slot_width, Value}
use Rattle.record.specs.Packing.{refusal}
use Rattle.record.specs.Reading.{reads}
use Rattle.record.proofs.Bytes.{All}
use Rattle.record.proofs.Sizes.{too_many as sizes-many}
use Rattle.record.proofs.Tables.{length-slots}
use Rattle.reader.specs.inside.Checks.{read_checked}
use Rattle.compare.specs.Difference.{report_width}
use Rattle.compare.specs.Comparing.{compares, compare_effect, compare}
use Rattle.compare.proofs.Calls.{accepted-reads}
use Rattle.compare.proofs.Lent.{Kept, Settled, settled, report_over, report-over}
use Rattle.host.specs.Numbers.{number_size, numbers_in, numbers_bytes}
use Rattle.host.proofs.numbers.NumberLaws.{length-numbers_in, length-bytes_of, bytes-stored}
use Rattle.host.specs.Host.{slot_size, reply_size, reply_of}
use Rattle.host.specs.inside.Small.{slot_bytes_fit}
use Rattle.host.proofs.Guards.{Fit, too_many}
use Rattle.host_compare.specs.Calls.{finding_size, whole_slots, compares_lent, compare_call, curlew_compare, CompareServed, HostCompares}
use Rattle.host_compare.specs.inside.report.{Fits, put_back}
use Rattle.host_compare.specs.inside.Steps.{second_cut}

-- ---- slots that are not served

-- more slots than a call may be lent
reads-many : (layout bs ns area : List ℕ) → slot_width * max_slots < length ns → reads layout bs ns area 0 ≡ refused BadSize 0
unfolding reads
reads-many layout bs ns area many = rw (sizes-many (length layout) (length ns) (length bs) (length area) many)

-- are refused with 1, as slots that are not whole
cut : {A : Type 0} (slots : List ℕ) (next : Result A) → slot_bytes_fit (length slots) ≡ false → (slot_width * max_slots < length (numbers_in slots) → next ≡ refused BadSize 0)
    → demand (whole_slots slots) BadSize 0 >>= (λ _. next) ≡ refused BadSize 0
cut {A} slots next bad many = go (whole_slots slots) refl
  where
    go : (t : Bool) → whole_slots slots ≡ t → demand t BadSize 0 >>= (λ _. next) ≡ refused BadSize 0
    go true whole = many (rw length-numbers_in (too_many (length slots) bad whole))
    go false whole = refl

whole : (slots : List ℕ) → Fit (length slots) → whole_slots slots ≡ true
whole slots f = eq-eqb (length slots % slot_size) 0 f.whole

-- a check looks at the number of the slots alone
pub checks-same : (layout bs area room slots : List ℕ) → length room ≡ length slots / number_size → read_checked layout bs room area 0 ≡ read_checked layout bs (numbers_in slots) area 0
unfolding read_checked reads
checks-same layout bs area room slots same = rw (length-slots room, length-slots (numbers_in slots), length-numbers_in slots, same)

-- what the check of the first reading says to a second table that is not served
module _ (layout bs slots area : List ℕ) where
  cut-refused : {why : Refusal} {place : ℕ} → reads layout bs slots area 0 ≡ refused why place → second_cut (read_checked layout bs slots area 0) ≡ refusal why place
  unfolding read_checked
  cut-refused {why} e = rw (e, ne_eqb (number_of why) 0 (λ z. no-number-zero why z))

  cut-accepted : {vs : List Value} → reads layout bs slots area 0 ≡ ok vs → second_cut (read_checked layout bs slots area 0) ≡ refusal BadSize 0
  unfolding read_checked
  cut-accepted {vs} e = let r = accepted-reads layout bs slots area vs e in rw (e, r.fields)

pub said : {a b : Answer} {r : ℕ} {reply : List ℕ} → a ≡ b → (r ≡ a.number) × (reply ≡ reply_of a) → (r ≡ b.number) × (reply ≡ reply_of b)
said e q = rw (← e) q

pub cut-first : {a b : Answer} → a ≡ b → (a.number ≡ 0 → ⊥) → a ≡ second_cut b
cut-first {a} e h = rw (← e, ne_eqb a.number 0 h)

pub cut-second : {a b : Answer} → a ≡ b → a.number ≡ 0 → refusal BadSize 0 ≡ second_cut b
cut-second {a} e z = rw (← e, eq-eqb a.number 0 z)

-- ---- each way out of the call

module _ (layout first second fslots farea sslots sarea report reply : List ℕ) where
  -- a call that returned r, and wrote the reply alone
  abbrev Refuses : ℕ → List ℕ → Type 0
  Refuses r reply' = HostCompares layout first second fslots fslots farea farea sslots sslots sarea sarea report report reply reply' r

  pub unwritten : eqb (length reply) reply_size ≡ false → Refuses (number_of BadSize) reply
  unfolding curlew_compare
  unwritten h = rw h

  module _ (sized : length reply ≡ reply_size) where
    -- a refusal writes the reply alone
    refused-by : {why : Refusal} {place r : ℕ} {a : Answer} {reply' : List ℕ}
        → compares_lent layout first second fslots farea sslots sarea report ≡ refused why place → a ≡ refusal why place
        → (r ≡ a.number) × (reply' ≡ reply_of a) → Refuses r reply'
    unfolding curlew_compare compare_call compare_effect
    refused-by {why} e p q = rw (eq-eqb (length reply) reply_size sized, e, q.0, q.1, p, ne_eqb (number_of why) 0 (λ z. no-number-zero why z))

    pub first-cut : {r : ℕ} {a : Answer} {reply' : List ℕ} → slot_bytes_fit (length fslots) ≡ false → a ≡ refusal BadSize 0 → (r ≡ a.number) × (reply' ≡ reply_of a) → Refuses r reply'
    unfolding compares_lent
    first-cut bad p q = refused-by lent p q
      where
        lent : compares_lent layout first second fslots farea sslots sarea report ≡ refused BadSize 0
        lent = cut fslots _ bad (λ many. rw (reads-many layout first (numbers_in fslots) farea many))

    module _ (f : Fit (length fslots)) where
      -- the refusals of the first reading come before those of the second
      lent-first : compares_lent layout first second fslots farea sslots sarea report
          ≡ reads layout first (numbers_in fslots) farea 0 >>= (λ _. demand (whole_slots sslots) BadSize 0 >>=
          (λ _. compares layout first second (numbers_in fslots) farea (numbers_in sslots) sarea (numbers_in report)))
      unfolding compares_lent
      lent-first = rw (whole fslots f)

      second-many : {vs : List Value} → reads layout first (numbers_in fslots) farea 0 ≡ ok vs → slot_width * max_slots < length (numbers_in sslots)
          → compares layout first second (numbers_in fslots) farea (numbers_in sslots) sarea (numbers_in report) ≡ refused BadSize 0
      unfolding compares
      second-many e many = rw (e, reads-many layout second (numbers_in sslots) sarea many)

      pub second-cut : {r : ℕ} {reply' : List ℕ} → slot_bytes_fit (length sslots) ≡ false
          → (r ≡ (second_cut (read_checked layout first (numbers_in fslots) farea 0)).number) × (reply' ≡ reply_of (second_cut (read_checked layout first (numbers_in fslots) farea 0))) → Refuses r reply'
      second-cut {r} {reply'} bad q = by (reads layout first (numbers_in fslots) farea 0) refl
        where
          by : (o : Result (List Value)) → reads layout first (numbers_in fslots) farea 0 ≡ o → Refuses r reply'
          by (refused why place) e = refused-by {why = why} {place = place} (lent-first ∙ rw e) (cut-refused layout first (numbers_in fslots) farea e) q
          by (ok vs) e = refused-by {why = BadSize} {place = 0} (lent-first ∙ rw e (cut sslots _ bad (second-many e))) (cut-accepted layout first (numbers_in fslots) farea e) q

      module _ (s : Fit (length sslots)) where
        again : (o : Result (List Value)) → reads layout first (numbers_in fslots) farea 0 ≡ o
            → reads layout first (numbers_in fslots) farea 0 >>= (λ _. compares layout first second (numbers_in fslots) farea (numbers_in sslots) sarea (numbers_in report))
            ≡ compares layout first second (numbers_in fslots) farea (numbers_in sslots) sarea (numbers_in report)
        unfolding compares
        again (refused why place) e = rw e
        again (ok vs) e = rw e

        pub served : {r : ℕ} {fslots' farea' sslots' sarea' report' reply' : List ℕ}
            → CompareServed layout first second fslots fslots' farea farea' sslots sslots' sarea sarea' report report' reply reply' r
            → HostCompares layout first second fslots fslots' farea farea' sslots sslots' sarea sarea' report report' reply reply' r
        unfolding curlew_compare compare
        served p = p ∙ rw (eq-eqb (length reply) reply_size sized, lent-first, whole sslots s, again (reads layout first (numbers_in fslots) farea 0) refl)

-- ---- what the call on numbers left, written back

fields_lent : {n : ℕ} (slots : List ℕ) {after : List ℕ} → Kept n (numbers_in slots) after → (length after * number_size ≤ length slots) × (n * slot_width ≤ length after)
fields_lent slots k = (omega (arith, k.long, length-numbers_in slots), omega (arith, k.lent, k.long))

-- the slots of the fields are written, and the others stay
kept_store : (n : ℕ) (before after : List ℕ) → Kept n before after → store_at before 0 (take (n * slot_width) after) ≡ after
kept_store n before after k =
    let m : slot_width * n ≡ n * slot_width = mul_comm slot_width n in
    let long : length (take (n * slot_width) after) ≡ n * slot_width = length-take-le (n * slot_width) after (omega (arith, k.lent, k.long)) in
    let rest : drop (n * slot_width) before ≡ drop (n * slot_width) after = rw (← m) (sym k.rest) in
    rw (zero-add, long, rest) (take-append-drop (n * slot_width) after)

kept-bytes : (n : ℕ) (slots after : List ℕ) {slots' : List ℕ} → Kept n (numbers_in slots) after
    → length slots % number_size ≡ 0 → All (λ b. b < 256) slots
    → slots' ≡ store_at slots 0 (numbers_bytes (take (n * slot_width) after))
    → slots' ≡ numbers_bytes after
kept-bytes n slots after k whole below e = e ∙ sym (bytes-stored slots (take (n * slot_width) after) whole below) ∙ ap numbers_bytes (kept_store n (numbers_in slots) after k)

-- the findings are written, and the rest of the report stays
findings-bytes : (n : ℕ) (findings numbers report : List ℕ) {report' : List ℕ} → report_width * n ≤ length findings → report' ≡ store_at report 0 (numbers_bytes (take (report_width * n) findings))
    → report' ≡ numbers_bytes (take (report_width * n) (take (report_width * n) findings ++ drop (report_width * n) numbers)) ++ drop (finding_size * n) report
findings-bytes n findings numbers report h e =
    let long : length (take (report_width * n) findings) ≡ report_width * n = length-take-le (report_width * n) findings h in
    let size : 0 + length (numbers_bytes (take (report_width * n) findings)) ≡ finding_size * n = omega (arith, length-bytes_of (take (report_width * n) findings)) in
    e ∙ rw (size, take_at (take (report_width * n) findings) (drop (report_width * n) numbers) (report_width * n) long)

module _ (layout first second fslots farea sslots sarea report findings : List ℕ) (short : length findings ≡ min (length report / number_size) (report_width * max_slots))
    {ns ms : List ℕ} (d : ns ≡ numbers_in fslots) (e : ms ≡ numbers_in sslots) {ns' farea' ms' sarea' findings' : List ℕ} {a : Answer}
    (c : record { answer = a; first_slots = ns'; first_area = farea'; second_slots = ms'; second_area = sarea'; report = findings' } ≡ compare layout first second ns farea ms sarea findings) where
  p : record {
    answer = a;
    first_slots = ns';
    first_area = farea';
    second_slots = ms';
    second_area = sarea';
    report = findings';
  } ≡ compare layout first second (numbers_in fslots) farea (numbers_in sslots) sarea findings
  p = c ∙ rw (d, e)

  over : compare layout first second (numbers_in fslots) farea (numbers_in sslots) sarea (numbers_in report)
      ≡ report_over (numbers_in report) (record { answer = a; first_slots = ns'; first_area = farea'; second_slots = ms'; second_area = sarea'; report = findings' })
  over =
      let room : length findings ≡ min (length (numbers_in report)) (report_width * max_slots) = rw length-numbers_in short in
      report-over layout first second (numbers_in fslots) farea (numbers_in sslots) sarea (numbers_in report) findings room ∙ ap (report_over (numbers_in report)) (sym p)

  -- the bytes of both tables, the report and the reply that a call leaves which returned r
  abbrev Served : List ℕ → List ℕ → List ℕ → List ℕ → ℕ → Type 0
  Served fslots' sslots' report' reply' r =
      record { returned = r; first_slots = fslots'; first_area = farea'; second_slots = sslots'; second_area = sarea'; report = report'; reply = reply' }
      ≡ compare_call fslots sslots report (compare layout first second (numbers_in fslots) farea (numbers_in sslots) sarea (numbers_in report))

  left : {r : ℕ} {reply' : List ℕ} → (r ≡ a.number) × (reply' ≡ reply_of a) → (a.number ≡ 0 → ⊥) → Served fslots sslots report reply' r
  unfolding compare_call
  left q h = rw (over, ne_eqb a.number 0 h, q.0, q.1)

  module _ (z : a.number ≡ 0) where
    settles : Settled (numbers_in fslots) (numbers_in sslots) findings (record { answer = a; first_slots = ns'; first_area = farea'; second_slots = ms'; second_area = sarea'; report = findings' })
    settles =
        let accepted : (compare layout first second (numbers_in fslots) farea (numbers_in sslots) sarea findings).answer.number ≡ 0 = rw (← p) z in
        subst (Settled (numbers_in fslots) (numbers_in sslots) findings) (sym p) (settled layout first second (numbers_in fslots) farea (numbers_in sslots) sarea findings accepted)

    findings-lent : (length findings' * number_size ≤ length report) × (report_width * a.first ≤ length findings')
    findings-lent = (omega (arith, settles.long, short), omega (arith, settles.findings, settles.long))

    written : {fslots' sslots' report' reply' : List ℕ} {r : ℕ} → (r ≡ a.number) × (reply' ≡ reply_of a)
        → length fslots % number_size ≡ 0 → All (λ b. b < 256) fslots → length sslots % number_size ≡ 0
        → All (λ b. b < 256) sslots
        → fslots' ≡ store_at fslots 0 (numbers_bytes (take (a.first * slot_width) ns'))
        → sslots' ≡ store_at sslots 0 (numbers_bytes (take (a.first * slot_width) ms'))
        → report' ≡ store_at report 0 (numbers_bytes (take (report_width * a.first) findings')) → Served fslots' sslots' report' reply' r
    unfolding compare_call
    written q w b w' b' f g h =
        let s = settles in
        let n : ℕ = a.first in
        let rest : report_width * n ≤ length findings' = omega (arith, s.findings, s.long) in
        rw (
          over,
          eq-eqb a.number 0 z,
          q.0,
          q.1,
          kept-bytes n fslots ns' s.first w b f,
          kept-bytes n sslots ms'
              s.second w' b' g,
          findings-bytes n findings' (numbers_in report) report rest h,
        )

  pub fits : a.number ≡ 0 → Fits a.first fslots sslots report ns' ms' findings'
  fits z =
      let s = settles z in
      record { first = fields_lent fslots s.first; second = fields_lent sslots s.second; findings = findings-lent z }

  module _ {fslots' sslots' report' reply' : List ℕ} {r : ℕ} (q : (r ≡ a.number) × (reply' ≡ reply_of a)) (w : length fslots % number_size ≡ 0) (b : All (λ b. b < 256) fslots) (w' : length sslots % number_size ≡ 0)
      (b' : All (λ b. b < 256) sslots) where
    by_answer : (t : Bool) → eqb a.number 0 ≡ t → fslots' ≡ (if t then store_at fslots 0 (numbers_bytes (take (a.first * slot_width) ns')) else fslots)
        → sslots' ≡ (if t then store_at sslots 0 (numbers_bytes (take (a.first * slot_width) ms')) else sslots)
        → report' ≡ (if t then store_at report 0 (numbers_bytes (take (report_width * a.first) findings')) else
        report) → Served fslots' sslots' report' reply' r
    by_answer true e f g h = written (eqb-true a.number 0 e) q w b w' b' f g h
    by_answer false e f g h = rw (f, g, h) (left q (eqb-false a.number 0 e))

    pub left_by : fslots' ≡ put_back a fslots (numbers_bytes (take (a.first * slot_width) ns')) → sslots' ≡ put_back a sslots (numbers_bytes (take (a.first * slot_width) ms'))
        → report' ≡ put_back a report (numbers_bytes (take (report_width * a.first) findings')) → Served fslots' sslots' report' reply' r
    unfolding put_back
    left_by f g h = by_answer (eqb a.number 0) refl f g h
