-- What each way out of a call leaves is what the definition gives.
use Prim.Native.Nat.{ℕ, ◌+◌, ◌-◌, ◌*◌, ◌/◌, ◌≤◌, ◌<◌}
use native.Mathlib.Nat.{zero-add, le_refl}
use native.Mathlib.Omega.{arith}
use mathlib.Core.Path.{◌≡◌, refl, sym, ap, ◌∙◌, subst}
use mathlib.Core.Bool.{true, false, ◌&&◌}
use mathlib.Core.List.{List, ◌++◌, map}
use borrow.Author.Tests.{le-leb, lt-leb, leb-true}
use lib.Dec.{leb}
use lib.ListN.{length, take, drop}
use Rattle.layout.specs.declared.Field.{Field}
use Rattle.layout.specs.declared.Refusal.{Refusal}
use Rattle.layout.specs.declared.Refusal.TheVariants.{BadSize, BadSlots, NoRoom}
use Rattle.std.specs.declared.result.Result.TheVariants.{Ok, Err}
use Rattle.layout.specs.declared.Refused.{Refused}
use Rattle.layout.specs.Refusals.{Result, ok, refused}
use Rattle.layout.specs.Layout.{fields_of, slot_count}
use Rattle.layout.proofs.Laws.{bound, demanded, no-number-zero}
use Rattle.layout.specs.inside.Parsing.{decoded}
use Rattle.layout.proofs.Decoded.{Learnt, learnt-front}
use Rattle.record.specs.declared.Answer.{Answer}
use Rattle.record.specs.Bytes.{store_at}
use Rattle.record.specs.Table.{slot_width, slots_of, Value, area_bytes, value_bytes}
use Rattle.record.specs.Geometry.{sizes_fit}
use Rattle.record.specs.Packing.{accepted, refusal}
use Rattle.record.specs.Reading.{Read, values_from, positions_from, reads, put_into, read, ReadAll, left_of}
use Rattle.record.proofs.Tables.{length-slots}
use Rattle.reader.specs.inside.Sizes.{read_lent_fits}
use Rattle.reader.specs.inside.Checks.{fitting}
use Rattle.reading.specs.inside.Run.{values_of}
use Rattle.reading.specs.inside.Tables.{put_all, TableRoom}
use Rattle.reader.proofs.checking.Calls.{Fit, fit, Fits, fits-refuse, fits-accept}
use Rattle.record.proofs.Readings.{values-few}
use Rattle.compare.specs.Difference.{report_width}
use Rattle.compare.specs.Report.{findings}
use Rattle.compare.specs.inside.Steps.{LayoutOpened}
use Rattle.compare.specs.Comparing.{Shown, compares, compare_effect, compare, Compares}
use Rattle.compare.specs.inside.Shown.{shown_bytes, Shows}
use Rattle.compare.proofs.report.Findings.{length-findings}
use Rattle.compare.proofs.Shown.{put-shows, put_holds}

-- ---- a reading that is accepted

pub record Reads (layout bs slots area : List ℕ) (vs : List Value) : Type 0 where
  pub values : reads layout bs slots area 0 ≡ ok vs
  pub fs : List Field
  pub fields : fields_of false layout ≡ ok fs
  pub shown : values_from bs 0 fs ≡ vs
  pub room : TableRoom vs slots area 0
  pub lent : slot_width * slot_count fs ≤ length slots

pub accepted-reads : (layout bs slots area : List ℕ) (vs : List Value) → reads layout bs slots area 0 ≡ ok vs → Reads layout bs slots area vs
unfolding reads
accepted-reads layout bs slots area vs h =
    let (sizes, e₁) = demanded (sizes_fit layout slots bs area && leb 0 (length area)) BadSize 0 _ vs h in
    let (fs, fields, e₂) = bound (fields_of false layout) _ vs e₁ in
    let (enough, e₃) = demanded (leb (slot_count fs) (length (slots_of slots))) BadSlots 0 _ vs e₂ in
    let (fits, e₄) = demanded (leb (0 + length (value_bytes (values_from bs 0 fs))) (length area)) NoRoom 0 _ vs e₃ in
    let lent : slot_width * slot_count fs ≤ length slots = omega (arith, leb-true (slot_count fs) (length (slots_of slots)) enough, length-slots slots) in
    let f : Fit (length layout) (length slots) (length bs) (length area) 0 = fit sizes in
    let same : values_from bs 0 fs ≡ vs = cc in
    let room : TableRoom (values_from bs 0 fs) slots area 0 =
    record {
      rows = omega (arith, lent, values-few bs 0 fs);
      table = f.table;
      room = leb-true _ _ fits;
      limit = f.limit;
    } in
    record { values = h; fs = fs; fields = fields; shown = same; room = rw same at room; lent = lent }

-- ---- what `fits` says of either reading, by the fields of the codes

pub record Passes (layout bs slots area : List ℕ) (taken : ℕ) : Type 0 where
  pub vs : List Value
  pub run : Reads layout bs slots area vs
  pub count : taken ≡ slot_count run.fs

pub opened : {layout bs slots area : List ℕ} {n taken : ℕ} {ws : List ℕ} → Fit (length layout) (length slots) (length bs) (length area) 0 → Learnt (fields_of false layout) n taken ws
    → LayoutOpened taken (take n ws) layout bs slots area
opened sizes l = let k = learnt-front l in record { fields = k.fields; count = k.taken; room = k.room; sizes = sizes.test }

module _ {taken : ℕ} {ws layout first slots₀ area₀ : List ℕ} (o : LayoutOpened taken ws layout first slots₀ area₀)
    (bs slots area : List ℕ) (t : read_lent_fits (length layout) (length slots) (length bs) (length area) 0 ≡ true)
    {a : Fits} (q : a ≡ fitting (length slots) taken (length area) (length (value_bytes (values_of (length ws) ws bs)))) where
  l : Learnt (fields_of false layout) (length ws) taken ws
  l = record { fields = o.fields; taken = o.count; few = le_refl _; room = o.room }

  sizes : Fit (length layout) (length slots) (length bs) (length area) 0
  sizes = fit t

  fits : a ≡ fitting (length slots) taken (length area - 0) (length (value_bytes (values_of (length ws) ws bs)))
  fits = let e : length area - 0 ≡ length area = omega arith in q ∙ ap (λ (r : ℕ). fitting (length slots) taken r (length (value_bytes (values_of (length ws) ws bs)))) (sym e)

  pub codes-fail : {e : Refused} → a ≡ Err e → reads layout bs slots area 0 ≡ refused e.why e.place
  codes-fail = fits-refuse layout bs slots area 0 sizes l fits

  module _ {u : Unit {0}} (z : a ≡ Ok u) where
    run : Reads layout bs slots area (values_of (length ws) ws bs)
    run = accepted-reads layout bs slots area _ (fits-accept layout bs slots area 0 sizes l fits z).0

    same : run.fs ≡ decoded (length ws) ws
    same = cc (run.fields, l.fields)

    pub codes-pass : Passes layout bs slots area taken
    codes-pass = record { vs = values_of (length ws) ws bs; run = run; count = rw same (l.taken) }

    pub codes-room : TableRoom (values_of (length ws) ws bs) slots area 0
    codes-room = run.room

    pub codes-left : {x : ReadAll} → x ≡ put_all (length ws) ws bs slots area 0 → left_of x ≡ read layout bs slots area 0
    unfolding read
    codes-left e = ap left_of e ∙ rw (run.values, run.fields, same)

-- ---- what a reading leaves

module _ {layout bs slots area : List ℕ} {taken : ℕ} (p : Passes layout bs slots area taken) {r : Read} (e : r ≡ read layout bs slots area 0) where
  abbrev at : List ℕ
  at = positions_from (length bs) 0 p.run.fs

  put : r ≡ put_into slots area 0 at p.vs
  unfolding read
  put = e ∙ rw (p.run.values, p.run.fields)

  pub read-holds : Shows r.slots r.area r.answer.first
  unfolding put_into
  read-holds = subst (λ (x : Read). Shows x.slots x.area x.answer.first) (sym put) (put_holds p.vs slots area at p.run.room)

  read-shows : shown_bytes r.slots r.area r.answer.first ≡ map area_bytes p.vs
  unfolding put_into
  read-shows = subst (λ (x : Read). shown_bytes x.slots x.area x.answer.first ≡ map area_bytes p.vs) (sym put) (put-shows p.vs slots area at p.run.room)

-- ---- each way out

module _ (layout first second fslots farea sslots sarea report : List ℕ) where
  -- a call that answered a, and changed nothing
  abbrev Unchanged : Answer → Type 0
  Unchanged a = Compares layout first second fslots fslots farea farea sslots sslots sarea sarea report report a

  pub first-fails : {a : Answer} {why : Refusal} {place : ℕ} → reads layout first fslots farea 0 ≡ refused why place → a ≡ refusal why place → Unchanged a
  unfolding compare compares compare_effect
  first-fails e h = rw (e, h)

  module _ {taken : ℕ} (p : Passes layout first fslots farea taken) where
    pub second-fails : {a : Answer} {why : Refusal} {place : ℕ} → reads layout second sslots sarea 0 ≡ refused why place → a ≡ refusal why place → Unchanged a
    unfolding compare compares compare_effect
    second-fails e h = rw (p.run.values, e, h)

    module _ (q : Passes layout second sslots sarea taken) where
      pub no_room : {a : Answer} → length report / report_width < taken → a ≡ refusal NoRoom 0 → Unchanged a
      unfolding compare compares compare_effect
      no_room h e =
          let l : length report < report_width * slot_count q.run.fs = omega (arith, q.count) in
          rw (p.run.values, q.run.values, q.run.fields, lt-leb _ _ l, e)

      pub done : {a : Answer} {x y : Read} {report' : List ℕ} → x ≡ read layout first fslots farea 0 → y ≡ read layout second sslots sarea 0 → taken ≤ length report / report_width
          → report' ≡ store_at report 0 (findings taken (shown_bytes x.slots x.area x.answer.first) (shown_bytes y.slots y.area y.answer.first))
          → a ≡ accepted taken 0
          → Compares layout first second fslots x.slots farea x.area sslots y.slots sarea y.area report report' a
      unfolding compare compares compare_effect
      done {a} {x} {y} {report'} e f h g k =
          let n : ℕ = slot_count q.run.fs in
          let l : report_width * n ≤ length report = omega (arith, q.count) in
          let vs : List (List ℕ) = map area_bytes p.vs in
          let ws : List (List ℕ) = map area_bytes q.vs in
          let w : report' ≡ findings n vs ws ++ drop (report_width * n) report = g ∙ rw (q.count, read-shows p e, read-shows q f, length-findings n vs ws, zero-add) in
          let b : a ≡ accepted n 0 = rw (← q.count) k in
          let same : p.run.fs ≡ q.run.fs = cc (p.run.fields, q.run.fields) in
          rw (p.run.values, q.run.values, q.run.fields, le-leb _ _ l, w, b, put p e, put q f, same)

-- ---- a call that is accepted

pub record Accepted (layout first second slots area slots' area' report : List ℕ) : Type 0 where
  pub vs : List Value
  pub ws : List Value
  pub fs : List Field
  pub one : reads layout first slots area 0 ≡ ok vs
  pub two : reads layout second slots' area' 0 ≡ ok ws
  pub fields : fields_of false layout ≡ ok fs
  pub fits : leb (report_width * slot_count fs) (length report) ≡ true

module _ (layout first second slots area slots' area' report : List ℕ) where
  accepted-by : (o : Result Shown) → (compare_effect slots area slots' area' report o).answer.number ≡ 0 → (s : Shown) × (o ≡ ok s)
  unfolding compare_effect
  accepted-by (ok s) e = (s, refl)
  accepted-by (refused why p) e = no-number-zero why e

  accepted-parts : (s : Shown) → compares layout first second slots area slots' area' report ≡ ok s → Accepted layout first second slots area slots' area' report
  unfolding compares
  accepted-parts s h =
      let (vs, one, e₁) = bound (reads layout first slots area 0) _ s h in
      let (ws, two, e₂) = bound (reads layout second slots' area' 0) _ s e₁ in
      let (fs, fields, e₃) = bound (fields_of false layout) _ s e₂ in
      let (fits, e₄) = demanded (leb (report_width * slot_count fs) (length report)) NoRoom 0 _ s e₃ in
      record { vs = vs; ws = ws; fs = fs; one = one; two = two; fields = fields; fits = fits }

  pub accepted-call : (compare layout first second slots area slots' area' report).answer.number ≡ 0 → Accepted layout first second slots area slots' area' report
  unfolding compare
  accepted-call e = let (s, h) = accepted-by (compares layout first second slots area slots' area' report) e in accepted-parts s h

  -- what it leaves
  pub left : (a : Accepted layout first second slots area slots' area' report)
      → compare layout first second slots area slots' area' report ≡ compare_effect slots area slots' area' report
      (ok
      (record {
        fields = slot_count a.fs;
        first = a.vs;
        second = a.ws;
        first_at = positions_from (length first) 0 a.fs;
        second_at = positions_from (length second) 0 a.fs;
      }))
  unfolding compare compares
  left a = rw (a.one, a.two, a.fields, a.fits)
