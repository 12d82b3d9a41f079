-- A position is open just where starred values decide it: with all of them empty the run stays within the reach of the
-- other fields, and with many items in each it is far beyond that wherever the track is open.
use Rattle.std.specs.declared.option.Option.TheVariants.{Some, None}
use Prim.Native.Nat.{ℕ, ◌+◌, ◌-◌, ◌*◌, ◌≤◌, max}
use native.Mathlib.Nat.{mul-le-mul}
use native.Mathlib.Omega.{arith}
use mathlib.Core.Path.{◌≡◌, refl, sym, ap, ◌∙◌, subst}
use mathlib.Core.Bool.{true, false, true≢false}
use mathlib.Core.List.{List, [], ◌∷◌}
use lib.ListN.{length, replicate, length-replicate}
use borrow.Author.Tests.{leb-true}
use Rattle.layout.specs.declared.Role.{Role}
use Rattle.layout.specs.declared.Role.TheVariants.{Data, Move}
use Rattle.layout.specs.declared.Motion.TheVariants.{Skip, Back, Goto}
use Rattle.layout.specs.declared.Shape.{Shape}
use Rattle.layout.specs.declared.Shape.TheVariants.{Text, Digits, Integers, Reals}
use Rattle.layout.specs.declared.Count.{Count}
use Rattle.layout.specs.declared.Count.TheVariants.{Absent, Star, Times}
use Rattle.layout.specs.declared.Field.{Field}
use Rattle.layout.specs.Layout.{max_layout, max_count, in_limit, has_meaning, slots_taken}
use Rattle.layout.specs.inside.Parsing.{FitRole}
use Rattle.layout.proofs.Laws.{AllSound}
use Rattle.record.specs.declared.Cursor.{Cursor}
use Rattle.record.specs.Geometry.{amount, bytes_for}
use Rattle.record.specs.Packing.{Run, start, pack_one}
use Rattle.record.specs.inside.Cursor.{cursor_of}
use Rattle.record.proofs.Stores.{add-run}
use Rattle.record.proofs.Moves.{Within, pack-within}
use Rattle.pack_check.specs.inside.measuring.{advance}
use Rattle.describe.specs.Description.{fewest, field_reach, layout_reach}
use Rattle.describe.proofs.Passing.{served-fewest, advance-near}
use Rattle.describe.specs.Placed.{Placed, fields_in}
use Rattle.describe.proofs.Counts.{Kept, AllKept}
use Rattle.describe.specs.declared.fields.Track.{Track}
use Rattle.describe.specs.Rows.{Extent, plus, highest, less, filling, position_after, onward, track_start, none, number_shown, rows_from, rows_of}
use Rattle.describe_claims.specs.Claim.{◌⇔◌, having, Decided, many_items}
use Rattle.describe_claims.proofs.Follows.{Is, Follows, follows_on, ServedBy, packs-on}

-- ---- a run over items that are all the digit 0

amount-again : (n : Count) (many : ℕ) → amount n (amount n many) ≡ amount n many
amount-again Absent many = refl
amount-again Star many = refl
amount-again (Times n) many = refl

zeros-serve : (k : Role) (n : Count) (many : ℕ) → ServedBy k n (replicate (amount n many) 48)
zeros-serve (Data s) n many =
    let m : ℕ = amount n many in
    rw (length-replicate {A = ℕ} m 48, amount-again n many) (served-fewest s m)
zeros-serve (Move m) n many = tt

advance-again : (c : Cursor) (k : Role) (n : Count) (many : ℕ) → advance c k n (amount n many) ≡ advance c k n many
advance-again c (Data s) n many = rw (amount-again n many)
advance-again c (Move m) n many = refl

zeros-on : (r : Run) (k : Role) (n : Count) (many : ℕ) → Within r
    → cursor_of (pack_one r k n (replicate (amount n many) 48)) ≡ advance (cursor_of r) k n many
zeros-on r k n many w =
    packs-on r k n (replicate (amount n many) 48) w (zeros-serve k n many)
    ∙ ap (advance (cursor_of r) k n) (length-replicate {A = ℕ} (amount n many) 48) ∙ advance-again (cursor_of r) k n many

-- ---- far beyond the other fields

abbrev far : ℕ
far = 2 * layout_reach + 1

-- a number that is open is far, but for `off` bytes that the fields before may have taken off
abbrev Far : ℕ → Extent → ℕ → Type 0
Far off (Some n) x = Unit {0}
Far off None x = far ≤ x + off

far-more : (off more : ℕ) (a : Extent) (x y : ℕ) → x + off ≤ y + more → Far off a x → Far more a y
far-more off more (Some n) x y l h = tt
far-more off more None x y l h = omega arith

far-plus : (off : ℕ) (a b : Extent) (x y : ℕ) → Far off a x → Far off b y → Far off (plus a b) (x + y)
far-plus off (Some a) (Some b) x y h k = tt
far-plus off (Some a) None x y h k = omega arith
far-plus off None b x y h k = omega arith

far-highest : (off : ℕ) (a b : Extent) (x y : ℕ) → Far off a x → Far off b y → Far off (highest a b) (max x y)
far-highest off (Some a) (Some b) x y h k = tt
far-highest off (Some a) None x y h k = omega arith
far-highest off None b x y h k = omega arith

-- `many` items fill far more bytes
far-items : (s : Shape) (many : ℕ) → FitRole (Data s) → many_items ≤ many → far ≤ bytes_for s many
far-items (Text pad) many f h = omega arith
far-items (Digits true high) many f h = omega arith
far-items (Digits false high) many f h = omega arith
far-items (Integers w big) many f h = let one : many * 1 ≤ many * w = mul-le-mul (omega arith) f.0 in omega arith
far-items (Reals true big) many f h = omega arith
far-items (Reals false big) many f h = omega arith

far-filling : (off : ℕ) (s : Shape) (n : Count) (many : ℕ) → FitRole (Data s) → many_items ≤ many
    → Far off (filling (Data s) n) (bytes_for s (amount n many))
far-filling off s Absent many f h = tt
far-filling off s Star many f h = omega (arith, far-items s many f h)
far-filling off s (Times n) many f h = tt

far-less : (off n : ℕ) (a : Extent) (x : ℕ) → n ≤ field_reach → Far off a x → Far (off + field_reach) (less a n) (x - n)
far-less off n (Some a) x l h = tt
far-less off n None x l h = omega arith

-- ---- one field

abbrev FarOff : ℕ → Track → Cursor → Type 0
FarOff off t c = Far off t.at c.at × Far off t.highest c.end

module _ (off : ℕ) (t : Track) (c : Cursor) (h : FarOff off t c) (many : ℕ) (enough : many_items ≤ many) where
  abbrev more : ℕ
  more = off + field_reach

  at_more : Far more t.at c.at
  at_more = far-more off more t.at c.at c.at (omega arith) h.0

  behind-far : (k : Role) (n : Count) → FitRole k → in_limit n ≡ true → has_meaning true k n ≡ true
      → Far more (position_after t k n) (advance c k n many).at
  behind-far (Data s) n f l m =
      far-plus more t.at (filling (Data s) n) c.at (bytes_for s (amount n many)) at_more (far-filling more s n many f enough)
  behind-far (Move Skip) Absent f l m = far-plus more t.at (Some 1) c.at 1 at_more tt
  behind-far (Move Skip) Star f l m = absurd (true≢false (sym m))
  behind-far (Move Skip) (Times n) f l m = far-plus more t.at (Some n) c.at n at_more tt
  behind-far (Move Back) Absent f l m = far-less off 1 t.at c.at (omega arith) h.0
  behind-far (Move Back) Star f l m = tt
  behind-far (Move Back) (Times n) f l m = far-less off n t.at c.at (omega (arith, leb-true n max_count l)) h.0
  behind-far (Move Goto) Absent f l m = tt
  behind-far (Move Goto) Star f l m = far-more off more t.highest c.end c.end (omega arith) h.1
  behind-far (Move Goto) (Times n) f l m = tt

  -- the highest position is no lower than the one before and than the new one
  end-over : (k : Role) (n : Count) → c.at ≤ c.end → max c.end (advance c k n many).at ≤ (advance c k n many).end
  end-over (Data s) n w = omega arith
  end-over (Move Skip) n w = omega arith
  end-over (Move Back) n w = omega arith
  end-over (Move Goto) n w = omega arith

  onward-far : (k : Role) (n : Count) → c.at ≤ c.end → FitRole k → in_limit n ≡ true → has_meaning true k n ≡ true
      → FarOff more (onward t k n) (advance c k n many)
  onward-far k n w f l m =
      let there : Far more (position_after t k n) (advance c k n many).at = behind-far k n f l m in
      let before : Far more t.highest c.end =
      far-more off more t.highest c.end c.end (omega arith) h.1 in
      let top : Far more (highest t.highest (position_after t k n)) (max c.end (advance c k n many).at) =
      far-highest more t.highest (position_after t k n) c.end (advance c k n many).at before there in
      (there, far-more more more (highest t.highest (position_after t k n)) _ _ (omega (arith, end-over k n w)) top)

-- ---- all fields

-- where the two runs stand after i fields: r with starred values empty, q with many items in each
record Apart (i : ℕ) (t : Track) (r q : Run) : Type 0 where
  low : length r.out ≤ i * field_reach
  r-within : Within r
  q-within : Within q
  r_follows : Follows t (cursor_of r)
  q-follows : Follows t (cursor_of q)
  far-off : FarOff (i * field_reach) t (cursor_of q)

told : (a : Extent) (i x y : ℕ) → i ≤ max_layout → x ≤ i * field_reach → Is a x → Is a y → Far (i * field_reach) a y
    → (number_shown a ≡ none) ⇔ (x ≡ y → ⊥)
told (Some a) i x y few low h k f = (λ e. absurd (omega arith), λ z. absurd (z (sym h ∙ k)))
told None i x y few low h k f = (λ e z. omega arith, λ z. refl)

module _ (many : ℕ) (enough : many_items ≤ many) where
  apart_next : (i : ℕ) (t : Track) (r q : Run) → Apart i t r q → (f : Field) → FitRole f.role → Kept true f
      → Apart (i + 1) (onward t f.role f.count) (pack_one r f.role f.count (fewest f).items) (pack_one q f.role f.count (having many f).items)
  apart_next i t r q a f fit kept =
      let k : Role = f.role in
      let n : Count = f.count in
      let c : Cursor = cursor_of r in
      let d : Cursor = cursor_of q in
      let r-on : cursor_of (pack_one r k n (fewest f).items) ≡ advance c k n 0 = zeros-on r k n 0 a.r-within in
      let q-on : cursor_of (pack_one q k n (having many f).items) ≡ advance d k n many =
      zeros-on q k n many a.q-within in
      record {
        low = omega (arith, ap (λ (x : Cursor). x.end) r-on, advance-near c k n fit kept.0 a.r-within, a.low);
        r-within = pack-within r k n (fewest f).items a.r-within;
        q-within = pack-within q k n (having many f).items a.q-within;
        r_follows = subst (Follows (onward t k n)) (sym r-on) (follows_on t c n a.r_follows k 0 a.r-within);
        q-follows = subst (Follows (onward t k n)) (sym q-on) (follows_on t d n a.q-follows k many a.q-within);
        far-off = subst (FarOff ((i + 1) * field_reach) (onward t k n)) (sym q-on)
            (rw (add-run i field_reach) (onward-far (i * field_reach) t d a.far-off many enough k n a.q-within fit kept.0 kept.1));
      }

  all-decided : (ps : List Placed) (i k : ℕ) (t : Track) (r q : Run) → Apart i t r q → i + length ps ≤ max_layout
      → AllSound (fields_in ps) → AllKept true (fields_in ps)
      → Decided many r q (fields_in ps) (rows_from k t ps)
  unfolding rows_from
  all-decided [] i k t r q a few s l = tt
  all-decided (p ∷ ps) i k t r q a few s l = (
    told t.at i r.at q.at (omega arith) (omega (arith, a.low, a.r-within)) a.r_follows.0 a.q-follows.0 a.far-off.0,
    all-decided ps (i + 1) (k + slots_taken p.what) (onward t p.what.role p.what.count) _ _ (apart_next i t r q a p.what s.0 l.0) (omega arith) s.1 l.1,
  )

  pub rows-decided : (ps : List Placed) → length ps ≤ max_layout → AllSound (fields_in ps) → AllKept true (fields_in ps)
      → Decided many start start (fields_in ps) (rows_of ps)
  unfolding rows_of
  rows-decided ps few s l =
      let at-start : Apart 0 track_start start start =
      record { low = omega arith; r-within = omega arith; q-within = omega arith; r_follows = (refl, refl); q-follows = (refl, refl); far-off = (tt, tt) } in
      all-decided ps 0 0 track_start start start at-start (omega arith) s l
