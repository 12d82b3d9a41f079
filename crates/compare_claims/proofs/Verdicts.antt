-- An accepted comparing leaves what two readings leave, and its findings compare the bytes of the values that these
-- set. Values of one field are of one kind, so their slots show the same exactly where the bytes are the same.
use Rattle.std.specs.Prelude.{if◌then◌else◌}
use Prim.Native.Nat.{ℕ, zero, suc, ◌+◌, ◌-◌, ◌*◌, ◌≤◌, ◌<◌}
use native.Mathlib.Nat.{not-suc-le-zero}
use native.Mathlib.Omega.{arith}
use mathlib.Core.Path.{◌≡◌, refl, sym, ap, ap₂, ◌∙◌, subst}
use mathlib.Core.Bool.{Bool, true, false, true≢false}
use mathlib.Core.Logic.{◌↔◌}
use mathlib.Core.List.{List, [], ◌∷◌, ◌++◌, map, append_assoc}
use lib.Dec.{eqb, leb}
use lib.ListN.{length, take, drop, get_or, length-map, drop_of_length-le}
use lib.Seq.{drop-nil, drop-drop, drop_at, take_at}
use Rattle.layout.specs.declared.Role.{Role}
use Rattle.layout.specs.declared.Role.TheVariants.{Data, Move}
use Rattle.layout.specs.declared.Shape.{Shape}
use Rattle.layout.specs.declared.Shape.TheVariants.{Text, Digits, Integers, Reals}
use Rattle.layout.specs.declared.Count.{Count}
use Rattle.layout.specs.declared.Field.{Field}
use Rattle.layout.specs.Refusals.{ok}
use Rattle.layout.specs.Layout.{fields_of, slot_count}
use Rattle.layout.proofs.Laws.{ok-inj}
use Rattle.record.specs.declared.slots.Slot.{Slot}
use Rattle.record.specs.Bytes.{part, join, store_at}
use Rattle.record.specs.Table.{slot_width, string, integer_size, no_position, Value, integer_bytes, area_bytes, shown, slot_numbers, value_bytes}
use Rattle.record.specs.Slots.{slot_at, value_end}
use Rattle.record.specs.Geometry.{bytes_for, items_of, moved_in}
use Rattle.record.specs.Reading.{loaded, value_at, values_from, positions_from, reads, put_into, Read, read}
use Rattle.record.proofs.Bytes.{All}
use Rattle.record.proofs.Fields.{split}
use Rattle.record.proofs.SlotLaws.{next-slot}
use Rattle.runs.proofs.Told.{bytes_in, InBytes, numbers-bytes, shown-told}
use Rattle.compare.specs.Difference.{same_bytes, first_difference, differing_bits, report_width, both_same, only_first, only_second, in_neither, both_differ, plain_finding, both_finding}
use Rattle.compare.specs.Report.{finding_of, findings}
use Rattle.compare.specs.Comparing.{Compared, compare_effect}
use Rattle.compare.proofs.Shown.{area-size, put_holds}
use Rattle.compare.proofs.Calls.{accepted-reads, Accepted, accepted-call, left}
use Rattle.compare_claims.specs.Claims.{SameIsEqual}
use Rattle.compare_claims.proofs.Claims.{same-is-equal}
use Rattle.compare_claims.specs.Verdicts.{LentToCompare, compared, first_read, second_read, Readings, AsReadings, verdict_at, Says, VerdictsSay}

-- ---- the readings

module _ (c : LentToCompare) where
  abbrev Call : Type 0
  Call =
      Accepted c.layout c.first c.second c.first_slots c.first_area c.second_slots c.second_area
      c.report

  accepts : (compared c).answer.number ≡ 0 → Call
  accepts z =
      accepted-call c.layout c.first c.second c.first_slots c.first_area c.second_slots c.second_area
      c.report z

  module _ (a : Call) where
    first-is : first_read c
        ≡ put_into c.first_slots c.first_area 0 (positions_from (length c.first) 0 a.fs) a.vs
    unfolding read
    first-is = rw (a.one, a.fields)

    second_is : second_read c
        ≡ put_into c.second_slots c.second_area 0 (positions_from (length c.second) 0 a.fs) a.ws
    unfolding read
    second_is = rw (a.two, a.fields)

    readings : Readings c
    unfolding compare_effect put_into
    readings =
        let is =
        left c.layout c.first c.second c.first_slots c.first_area c.second_slots c.second_area
        c.report a in
        record {
          first-accepted = ap (λ (r : Read). r.answer.number) first-is;
          second-accepted = ap (λ (r : Read). r.answer.number) second_is;
          first-slots = ap (λ (x : Compared). x.first_slots) is ∙ sym (ap (λ (r : Read). r.slots) first-is);
          first-area = ap (λ (x : Compared). x.first_area) is ∙ sym (ap (λ (r : Read). r.area) first-is);
          second-slots = ap (λ (x : Compared). x.second_slots) is ∙ sym (ap (λ (r : Read). r.slots) second_is);
          second-area = ap (λ (x : Compared). x.second_area) is ∙ sym (ap (λ (r : Read). r.area) second_is);
        }

pub as-readings : AsReadings
as-readings c z =
    readings c (accepts c z)

-- ---- the verdict of a finding

-- the first number of the finding of the first of these values
verdict_of : List (List ℕ) → List (List ℕ) → ℕ
unfolding same_bytes
verdict_of [] [] = in_neither
verdict_of (x ∷ xs) [] = only_first
verdict_of [] (y ∷ ys) = only_second
verdict_of (x ∷ xs) (y ∷ ys) = if same_bytes x y then both_same else both_differ

finding-starts : (xs ys : List (List ℕ)) (rest : List ℕ)
    → (p : ℕ) × (b : ℕ) × (finding_of xs ys ++ rest ≡ verdict_of xs ys ∷ p ∷ b ∷ rest)
unfolding finding_of both_finding verdict_of
finding-starts [] [] rest = (0, 0, refl)
finding-starts (x ∷ xs) [] rest = (0, 0, refl)
finding-starts [] (y ∷ ys) rest = (0, 0, refl)
finding-starts (x ∷ xs) (y ∷ ys) rest = by-same (same_bytes x y)
  where
    different : List ℕ
    different = both_differ ∷ first_difference x y ∷ differing_bits x y ∷ []

    by-same : (t : Bool)
        → (p : ℕ) × (b : ℕ) × ((if t then plain_finding both_same else different) ++ rest
        ≡ (if t then both_same else both_differ) ∷ p ∷ b ∷ rest)
    by-same true = (0, 0, refl)
    by-same false = (first_difference x y, differing_bits x y, refl)

verdict-finding : (n : ℕ) (xs ys : List (List ℕ)) (rest : List ℕ) (i : ℕ) → i < n
    → verdict_at (findings n xs ys ++ rest) i ≡ verdict_of (drop i xs) (drop i ys)
unfolding findings
verdict-finding zero xs ys rest i h = absurd (not-suc-le-zero h)
verdict-finding (suc n) xs ys rest zero h =
    let later : List ℕ = findings n (drop 1 xs) (drop 1 ys) ++ rest in
    let (p, b, e) = finding-starts xs ys later in
    ap (λ (l : List ℕ). get_or l 0 0) (append_assoc (finding_of xs ys) (findings n (drop 1 xs) (drop 1 ys)) rest ∙ e)
verdict-finding (suc n) xs ys rest (suc i) h =
    let later : List ℕ = findings n (drop 1 xs) (drop 1 ys) ++ rest in
    let (p, b, e) = finding-starts xs ys later in
    let on : report_width * suc i ≡ suc (suc (suc (report_width * i))) = omega arith in
    let one : finding_of xs ys ++ findings n (drop 1 xs) (drop 1 ys) ++ rest ≡ verdict_of xs ys ∷ p ∷ b ∷ later =
    append_assoc (finding_of xs ys) (findings n (drop 1 xs) (drop 1 ys)) rest ∙ e in
    rw on
    (ap (λ (l : List ℕ). get_or l (suc (suc (suc (report_width * i)))) 0) one
    ∙ verdict-finding n (drop 1 xs) (drop 1 ys) rest i (omega arith)
    ∙ ap₂ verdict_of (next xs i) (next ys i))
  where
    next : (l : List (List ℕ)) (i : ℕ) → drop i (drop 1 l) ≡ drop (suc i) l
    next [] i = drop-nil i
    next (x ∷ l) i = refl

-- ---- what each verdict says

never : {A B : Type 0} → (A → ⊥) → (B → ⊥) → A ↔ B
never f g = ((λ a. absurd (f a)), (λ b. absurd (g b)))

module _ (i m n : ℕ) (same-shown : Type 0) where
  neither : m ≤ i → n ≤ i → Says i m n same-shown in_neither
  neither h k = record {
    is_same = never (λ e. omega arith) (λ p. omega (arith, p.0));
    is-first = never (λ e. omega arith) (λ p. omega (arith, p.0));
    is-second = never (λ e. omega arith) (λ p. omega (arith, p.1));
    is-neither = ((λ e. (h, k)), (λ p. refl));
    is-different = never (λ e. omega arith) (λ p. omega (arith, p.0));
  }

  first-only : i < m → n ≤ i → Says i m n same-shown only_first
  first-only h k = record {
    is_same = never (λ e. omega arith) (λ p. omega (arith, p.1));
    is-first = ((λ e. (h, k)), (λ p. refl));
    is-second = never (λ e. omega arith) (λ p. omega (arith, p.0));
    is-neither = never (λ e. omega arith) (λ p. omega (arith, p.0));
    is-different = never (λ e. omega arith) (λ p. omega (arith, p.1));
  }

  second-only : m ≤ i → i < n → Says i m n same-shown only_second
  second-only h k = record {
    is_same = never (λ e. omega arith) (λ p. omega (arith, p.0));
    is-first = never (λ e. omega arith) (λ p. omega (arith, p.0));
    is-second = ((λ e. (h, k)), (λ p. refl));
    is-neither = never (λ e. omega arith) (λ p. omega (arith, p.1));
    is-different = never (λ e. omega arith) (λ p. omega (arith, p.0));
  }

  alike : i < m → i < n → same-shown → Says i m n same-shown both_same
  alike h k s = record {
    is_same = ((λ e. (h, k, s)), (λ p. refl));
    is-first = never (λ e. omega arith) (λ p. omega (arith, p.1));
    is-second = never (λ e. omega arith) (λ p. omega (arith, p.0));
    is-neither = never (λ e. omega arith) (λ p. omega (arith, p.0));
    is-different = never (λ e. omega arith) (λ p. p.2 s);
  }

  apart : i < m → i < n → (same-shown → ⊥) → Says i m n same-shown both_differ
  apart h k s = record {
    is_same = never (λ e. omega arith) (λ p. s p.2);
    is-first = never (λ e. omega arith) (λ p. omega (arith, p.1));
    is-second = never (λ e. omega arith) (λ p. omega (arith, p.0));
    is-neither = never (λ e. omega arith) (λ p. omega (arith, p.0));
    is-different = ((λ e. (h, k, s)), (λ p. refl));
  }

  -- both set: by their bytes
  both : (xs ys : List ℕ) → i < m → i < n → (xs ≡ ys) ↔ same-shown
      → Says i m n same-shown (if same_bytes xs ys then both_same else both_differ)
  unfolding SameIsEqual
  both xs ys h k e = by_bytes (same_bytes xs ys) (λ t. (same-is-equal xs ys).0 t) (λ t. (same-is-equal xs ys).1 t)
    where
      by_bytes : (t : Bool) → (t ≡ true → xs ≡ ys) → (xs ≡ ys → t ≡ true)
          → Says i m n same-shown (if t then both_same else both_differ)
      by_bytes true f g = alike h k (e.0 (f refl))
      by_bytes false f g = apart h k (λ s. absurd (true≢false (sym (g (e.1 s)))))

-- ---- the slots that a reading set

-- value number i of those that were set
abbrev value_no : List Value → ℕ → Value
value_no vs i = get_or vs i (record { kind = string; items = [] })

-- a slot of its kind, whose bytes are its bytes
record Holding (area : List ℕ) (s : Slot) (v : Value) : Type 0 where
  kind : s.kind ≡ v.kind
  bytes : bytes_in area s ≡ area_bytes v

-- items of eight bytes are stored as bytes
in_bytes : (area : List ℕ) (s : Slot) (v : Value) → Holding area s v → InBytes area s
unfolding area_bytes
in_bytes area s v h other =
    let kind : eqb v.kind string ≡ false = rw h.kind at other in
    let here : part area s.start (s.len * integer_size) ≡ area_bytes v = rw other at h.bytes in
    let is : area_bytes v ≡ integer_bytes v.items = rw kind in
    subst (All (λ b. b < 256)) (sym (here ∙ is)) (numbers-bytes integer_size v.items)

slot_next : (k s n p : ℕ) (ns : List ℕ) (i : ℕ) → slot_at (k ∷ s ∷ n ∷ p ∷ ns) (suc i) ≡ slot_at ns i
unfolding slot_at
slot_next k s n p ns i =
    let on : (j : ℕ) → slot_width * suc i + j ≡ suc (suc (suc (suc (slot_width * i + j)))) = λ j. omega arith in
    let here : slot_width * suc i ≡ suc (suc (suc (suc (slot_width * i)))) = omega arith in
    rw (on 1, on 2, on 3, here)

put_first : (v : Value) (start p : ℕ) (area rest more : List ℕ) → drop start area ≡ area_bytes v ++ rest
    → Holding area (slot_at (v.kind ∷ start ∷ length v.items ∷ p ∷ more) 0) v
unfolding slot_at
put_first v start p area rest more e = record {
  kind = refl;
  bytes =
      rw (← area-size v) (ap (take (length (area_bytes v))) e ∙ take_at (area_bytes v) rest (length (area_bytes v)) refl);
}

put-at : (vs : List Value) (start : ℕ) (at area rest more : List ℕ) (i : ℕ) → i < length vs
    → drop start area ≡ value_bytes vs ++ rest
    → Holding area (slot_at (slot_numbers start at vs ++ more) i) (value_no vs i)
unfolding slot_numbers value_bytes join
put-at [] start at area rest more i h e = absurd (not-suc-le-zero h)
put-at (v ∷ vs) start at area rest more zero h e =
    let n : ℕ = length (area_bytes v) in
    let here : drop start area ≡ area_bytes v ++ (value_bytes vs ++ rest) =
    e ∙ append_assoc (area_bytes v) (value_bytes vs) rest in
    put_first v start (get_or at 0 no_position) area _ _ here
put-at (v ∷ vs) start at area rest more (suc i) h e =
    let n : ℕ = length (area_bytes v) in
    let here : drop start area ≡ area_bytes v ++ (value_bytes vs ++ rest) =
    e ∙ append_assoc (area_bytes v) (value_bytes vs) rest in
    let later : drop (start + n) area ≡ value_bytes vs ++ rest =
    sym (drop-drop n start area) ∙ ap (drop n) here ∙ drop_at (area_bytes v) (value_bytes vs ++ rest) n refl in
    rw slot_next (put-at vs (start + n) (drop 1 at) area rest more i (omega arith) later)

-- the table and the area that a reading leaves
module _ (layout bs slots area : List ℕ) (vs : List Value) (e : reads layout bs slots area 0 ≡ ok vs) (at : List ℕ)
    (i : ℕ) (inside : i < length vs) where
  after : Read
  after = put_into slots area 0 at vs

  slot-holds : Holding after.area (slot_at after.slots i) (value_no vs i)
  unfolding after put_into
  slot-holds =
      put-at vs 0 at (store_at area 0 (value_bytes vs)) (drop (0 + length (value_bytes vs)) area)
      (drop (slot_width * length vs) slots) i inside refl

  slot-inside : value_end (slot_at after.slots i) ≤ length after.area
  unfolding after
  slot-inside =
      let r = accepted-reads layout bs slots area vs e in
      let h = put_holds vs slots area at r.room in
      rw (next-slot after.slots i (omega (arith, h.lent))) at (h.values i inside)

-- ---- values of one field are of one kind

loaded-kind : (s : Shape) (u : Bool) (m n : ℕ) (bs cs : List ℕ) → (loaded s u m bs).kind ≡ (loaded s u n cs).kind
unfolding loaded
loaded-kind (Text pad) u m n bs cs = refl
loaded-kind (Digits hex high) u m n bs cs = refl
loaded-kind (Integers w big) u m n bs cs = refl
loaded-kind (Reals single big) u m n bs cs = refl

-- at number i of either list, if it is there
abbrev SameKind : List Value → List Value → Type 0
SameKind vs ws = (i : ℕ) → i < length vs → i < length ws → (value_no vs i).kind ≡ (value_no ws i).kind

one_more : (v w : Value) (vs ws : List Value) (t u : Bool) → v.kind ≡ w.kind → SameKind vs ws
    → SameKind (if t then v ∷ vs else []) (if u then w ∷ ws else [])
one_more v w vs ws true true e later zero h k = e
one_more v w vs ws true true e later (suc i) h k = later i (omega arith) (omega arith)
one_more v w vs ws true false e later i h k = absurd (not-suc-le-zero k)
one_more v w vs ws false u e later i h k = absurd (not-suc-le-zero h)

module _ (bs cs : List ℕ) where
  field-kind : (fs : List Field) → ((at to : ℕ) → SameKind (values_from bs at fs) (values_from cs to fs))
      → (at to : ℕ) (k : Role) (u : Bool) (n : Count)
      → SameKind (values_from bs at (record { role = k; unsigned = u; count = n } ∷ fs))
      (values_from cs to (record { role = k; unsigned = u; count = n } ∷ fs))
  unfolding values_from
  field-kind fs ih at to (Data s) u n =
      let left : ℕ = length bs - at in
      let left' : ℕ = length cs - to in
      let need : ℕ = bytes_for s (items_of s n left) in
      let need' : ℕ = bytes_for s (items_of s n left') in
      one_more (value_at bs at s u (items_of s n left)) (value_at cs to s u (items_of s n left'))
      (values_from bs (at + need) fs) (values_from cs (to + need') fs)
      (leb need left) (leb need' left')
      (loaded-kind s u (items_of s n left) (items_of s n left') (part bs at need) (part cs to need'))
      (ih (at + need) (to + need'))
  field-kind fs ih at to (Move m) u n = ih (moved_in (length bs) m n at) (moved_in (length cs) m n to)

  same_kind : (fs : List Field) (at to : ℕ) → SameKind (values_from bs at fs) (values_from cs to fs)
  unfolding values_from
  same_kind [] at to i h k = absurd (not-suc-le-zero h)
  same_kind (f ∷ fs) at to i h k =
      field-kind fs (λ a b. same_kind fs a b) at to f.role f.unsigned f.count i h k

-- ---- the claim

-- the bytes of value number i, and of those after it
there : (vs : List Value) (i : ℕ) → i < length vs
    → (rest : List (List ℕ)) × (drop i (map area_bytes vs) ≡ area_bytes (value_no vs i) ∷ rest)
there [] i h = absurd (not-suc-le-zero h)
there (v ∷ vs) zero h = (map area_bytes vs, refl)
there (v ∷ vs) (suc i) h = there vs i (omega arith)

gone : (vs : List Value) (i : ℕ) → length vs ≤ i → drop i (map area_bytes vs) ≡ []
gone vs i h = let few : length (map area_bytes vs) ≤ i = rw length-map h in drop_of_length-le (map area_bytes vs) few

-- the verdict on number i of two lists of values, by their bytes
says : (vs ws : List Value) (i : ℕ) (same-shown : Type 0)
    → (i < length vs → i < length ws → (area_bytes (value_no vs i) ≡ area_bytes (value_no ws i)) ↔ same-shown)
    → Says i (length vs) (length ws) same-shown (verdict_of (drop i (map area_bytes vs)) (drop i (map area_bytes ws)))
unfolding verdict_of
says vs ws i same-shown e =
    split (length vs) i
    (λ h.
    split (length ws) i
    (λ k. rw (gone vs i h, gone ws i k) (neither i (length vs) (length ws) same-shown h k))
    (λ k. let (rest, x) = there ws i k in rw (gone vs i h, x) (second-only i (length vs) (length ws) same-shown h k)))
    (λ h.
    let (rest, x) = there vs i h in
    split (length ws) i
    (λ k. rw (gone ws i k, x) (first-only i (length vs) (length ws) same-shown h k))
    (λ k. let (rest', y) = there ws i k in rw (x, y) (both i (length vs) (length ws) same-shown _ _ h k (e h k))))

-- the values that a reading set are those of the fields
values-are : (layout bs slots area : List ℕ) (vs : List Value) (fs : List Field) → reads layout bs slots area 0 ≡ ok vs
    → fields_of false layout ≡ ok fs
    → values_from bs 0 fs ≡ vs
values-are layout bs slots area vs fs e f =
    let r = accepted-reads layout bs slots area vs e in
    let same-fields : fs ≡ r.fs = ok-inj (sym f ∙ r.fields) in
    ap (values_from bs 0) same-fields ∙ r.shown

-- the bytes of two slots that were set by one field are the same exactly where the slots show the same
module _ (c : LentToCompare) (a : Call c) (i : ℕ) where
  kinds : SameKind a.vs a.ws
  kinds =
      let vs : values_from c.first 0 a.fs ≡ a.vs =
      values-are c.layout c.first c.first_slots c.first_area a.vs a.fs a.one a.fields in
      let ws : values_from c.second 0 a.fs ≡ a.ws =
      values-are c.layout c.second c.second_slots c.second_area a.ws a.fs a.two a.fields in
      subst (λ (xs : List Value). SameKind xs a.ws) vs
      (subst (SameKind (values_from c.first 0 a.fs)) ws (same_kind c.first c.second a.fs 0 0))

  p : Read
  p = put_into c.first_slots c.first_area 0 (positions_from (length c.first) 0 a.fs) a.vs

  q : Read
  q = put_into c.second_slots c.second_area 0 (positions_from (length c.second) 0 a.fs) a.ws

  shown-alike : i < length a.vs → i < length a.ws
      → (area_bytes (value_no a.vs i) ≡ area_bytes (value_no a.ws i)) ↔
      (shown p.area (slot_at p.slots i) ≡ shown q.area (slot_at q.slots i))
  unfolding p q after
  shown-alike h k =
      let at : List ℕ = positions_from (length c.first) 0 a.fs in
      let to : List ℕ = positions_from (length c.second) 0 a.fs in
      let one : Holding p.area (slot_at p.slots i) (value_no a.vs i) =
      slot-holds c.layout c.first c.first_slots c.first_area a.vs a.one at i h in
      let two : Holding q.area (slot_at q.slots i) (value_no a.ws i) =
      slot-holds c.layout c.second c.second_slots c.second_area a.ws a.two to i k in
      let told =
      shown-told p.area q.area (slot_at p.slots i) (slot_at q.slots i)
      (one.kind ∙ kinds i h k ∙ sym two.kind)
      (slot-inside c.layout c.first c.first_slots c.first_area a.vs a.one at i h)
      (slot-inside c.layout c.second c.second_slots c.second_area a.ws a.two to i k)
      (in_bytes p.area (slot_at p.slots i) (value_no a.vs i) one)
      (in_bytes q.area (slot_at q.slots i) (value_no a.ws i) two) in
      ((λ e. told.0 (one.bytes ∙ e ∙ sym two.bytes)), (λ e. sym one.bytes ∙ told.1 e ∙ two.bytes))

pub verdicts-say : VerdictsSay
unfolding compare_effect p q put_into
verdicts-say c z i inside =
    let a : Call c = accepts c z in
    let is =
    left c.layout c.first c.second c.first_slots c.first_area c.second_slots c.second_area
    c.report a in
    let n : ℕ = slot_count a.fs in
    let fields : (compared c).answer.first ≡ n = ap (λ (x : Compared). x.answer.first) is in
    let finding-is =
    verdict-finding n (map area_bytes a.vs) (map area_bytes a.ws) (drop (report_width * n) c.report) i
    (rw fields at inside) in
    rw (is, first-is c a, second_is c a, finding-is) (says a.vs a.ws i _ (shown-alike c a i))
