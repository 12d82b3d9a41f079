-- No field breaks a promise just where all fields keep it, since every place lies in the text and so is not the number
-- that stands for none. That all keep to a limit is said by the sum over all of them, since the sums only grow; so all
-- fields keep a promise just where the layout is one of which the theorem speaks.
use Rattle.std.specs.Prelude.{if◌then◌else◌}
use Prim.Native.Nat.{ℕ, suc, ◌+◌, ◌≤◌}
use native.Mathlib.Omega.{arith}
use mathlib.Core.Path.{◌≡◌, refl, sym, ◌∙◌}
use mathlib.Core.Bool.{Bool, true, false, ◌&&◌, true≢false}
use mathlib.Core.List.{List, [], ◌∷◌}
use lib.ListN.{length}
use lib.Dec.{T, leb}
use borrow.Author.Tests.{le-leb, leb-true}
use Rattle.layout.specs.declared.Field.{Field}
use Rattle.layout.specs.Layout.{max_layout, takes_slot, to_nat, slot_count, slots_taken}
use Rattle.record.specs.Table.{max_slots, max_record}
use Rattle.record.proofs.Bytes.{and-true}
use Rattle.runs.specs.Ends.{plain_role, fills, end_of}
use Rattle.runs.proofs.Calls.{T→true}
use Rattle.evolution.specs.Claim.{plain}
use Rattle.lossless.specs.Claim.{lossless}
use Rattle.joining.specs.Claim.{forward}
use Rattle.promises.specs.declared.Reach.{Reach}
use Rattle.promises.specs.Placed.{Placed, fields_in}
use Rattle.promises.specs.Promises.{Promise, grows, keeps, joins, is_plain, in_table, in_record, reach_start, reach_with, plain_field, lossless_field, slots_in_table, end_in_record, nowhere, break_from, first_break}
use Rattle.promises_claims.specs.Claim.{◌⇔◌, Stand, Limited}

pub true→T : (b : Bool) → b ≡ true → T b
true→T b e = rw e tt

pub and_both : (a b : Bool) → a ≡ true → b ≡ true → a && b ≡ true
and_both a b p q = rw (p, q)

-- ---- all fields keep a promise, where those before have come so far

abbrev pub all_keep : Promise → Reach → List Field → Bool
all_keep q r [] = true
all_keep q r (f ∷ fs) = q (reach_with r f) f && all_keep q (reach_with r f) fs

module _ (q : Promise) where
  break-kept : (text : List ℕ) (from : ℕ) (r : Reach) (ps : List Placed) → length text ≤ max_layout → Stand text from ps
      → break_from q r ps ≡ nowhere → all_keep q r (fields_in ps) ≡ true
  unfolding break_from
  break-kept text from r [] h s e = refl
  break-kept text from r (p ∷ ps) h (n, here, later) e =
      step (reach_with r p.what) (q (reach_with r p.what) p.what) e
      (λ k. break-kept text (p.place + 1 + n) (reach_with r p.what) ps h later k)
    where
      step : (s : Reach) (t : Bool) → (if t then break_from q s ps else p.place) ≡ nowhere
          → (break_from q s ps ≡ nowhere → all_keep q s (fields_in ps) ≡ true) → (t && all_keep q s (fields_in ps)) ≡ true
      step s true k ih = ih k
      step s false k ih = absurd (omega (arith, here.inside))

  kept-break : (r : Reach) (ps : List Placed) → all_keep q r (fields_in ps) ≡ true → break_from q r ps ≡ nowhere
  unfolding break_from
  kept-break r [] e = refl
  kept-break r (p ∷ ps) e =
      step (reach_with r p.what) (q (reach_with r p.what) p.what) e (λ k. kept-break (reach_with r p.what) ps k)
    where
      step : (s : Reach) (t : Bool) → (t && all_keep q s (fields_in ps)) ≡ true
          → (all_keep q s (fields_in ps) ≡ true → break_from q s ps ≡ nowhere)
          → (if t then break_from q s ps else p.place) ≡ nowhere
      step s true k ih = ih k
      step s false k ih = absurd (true≢false (sym k))

  pub unbroken : (text : List ℕ) (ps : List Placed) (fs : List Field) → length text ≤ max_layout → Stand text 0 ps
      → fields_in ps ≡ fs → (first_break q ps ≡ nowhere) ⇔ (all_keep q reach_start fs ≡ true)
  unfolding first_break
  unbroken text ps fs h s e = (λ k. rw (← e) (break-kept text 0 reach_start ps h s k), λ k. kept-break reach_start ps (rw e k))

-- ---- sums that stay within a limit

module _ (add : Field → ℕ) where
  abbrev sum : List Field → ℕ
  sum [] = 0
  sum (f ∷ fs) = add f + sum fs

  abbrev all_within : ℕ → ℕ → List Field → Bool
  all_within limit at [] = true
  all_within limit at (f ∷ fs) = leb (at + add f) limit && all_within limit (at + add f) fs

  within-sum : (limit at : ℕ) (fs : List Field) → at ≤ limit → (all_within limit at fs ≡ true) ⇔ (at + sum fs ≤ limit)
  within-sum limit at [] h = (λ _. omega arith, λ _. refl)
  within-sum limit at (f ∷ fs) h = step (at + add f) (λ k. within-sum limit (at + add f) fs k) (omega arith)
    where
      step : (to : ℕ) → (to ≤ limit → (all_within limit to fs ≡ true) ⇔ (to + sum fs ≤ limit)) → to ≡ at + add f
          → (leb to limit && all_within limit to fs ≡ true) ⇔ (at + (add f + sum fs) ≤ limit)
      step to ih e = (
        λ k.
            let (x, y) = and-true (leb to limit) (all_within limit to fs) k in
            omega (arith, (ih (leb-true to limit x)).0 y),
        λ k.
            let near : to ≤ limit = omega arith in
            and_both (leb to limit) (all_within limit to fs) (le-leb to limit near) ((ih near).1 (omega arith)),
      )

-- the slots and the end of a layout are such sums

abbrev fills_of : Field → ℕ
fills_of f = fills f.role f.count

slots-sum : (fs : List Field) → slot_count fs ≡ sum slots_taken fs
unfolding slot_count
slots-sum [] = refl
slots-sum (f ∷ fs) = step (takes_slot f.role) (slots-sum fs)
  where
    step : (t : Bool) → slot_count fs ≡ sum slots_taken fs
        → (if t then suc (slot_count fs) else slot_count fs) ≡ to_nat t + sum slots_taken fs
    step true h = omega arith
    step false h = omega arith

end-sum : (fs : List Field) → end_of fs ≡ sum fills_of fs
unfolding end_of
end-sum [] = refl
end-sum (f ∷ fs) = rw (end-sum fs)

all_slots : (r : Reach) (fs : List Field) → all_keep in_table r fs ≡ all_within slots_taken max_slots r.slots fs
all_slots r [] = refl
all_slots r (f ∷ fs) = rw (all_slots (reach_with r f) fs)

all_room : (r : Reach) (fs : List Field) → all_keep in_record r fs ≡ all_within fills_of max_record r.end fs
all_room r [] = refl
all_room r (f ∷ fs) = rw (all_room (reach_with r f) fs)

pub slots_kept : (fs : List Field) → (all_keep in_table reach_start fs ≡ true) ⇔ (slot_count fs ≤ max_slots)
slots_kept fs =
    let (there, back) = within-sum slots_taken max_slots 0 fs (omega arith) in (
      λ k. omega (arith, slots-sum fs, there (sym (all_slots reach_start fs) ∙ k)),
      λ k. all_slots reach_start fs ∙ back (omega (arith, slots-sum fs)),
    )

pub room-kept : (fs : List Field) → (all_keep in_record reach_start fs ≡ true) ⇔ (end_of fs ≤ max_record)
room-kept fs =
    let (there, back) = within-sum fills_of max_record 0 fs (omega arith) in (
      λ k. omega (arith, end-sum fs, there (sym (all_room reach_start fs) ∙ k)),
      λ k. all_room reach_start fs ∙ back (omega (arith, end-sum fs)),
    )

-- ---- what is asked of each field by itself

abbrev all_own : (Field → Bool) → List Field → Bool
all_own own [] = true
all_own own (f ∷ fs) = own f && all_own own fs

module _ (q : Promise) (own : Field → Bool) where
  own-kept : ((r : Reach) (f : Field) → q r f ≡ own f) → (r : Reach) (fs : List Field)
      → all_keep q r fs ≡ all_own own fs
  own-kept e r [] = refl
  own-kept e r (f ∷ fs) = rw (e (reach_with r f) f, own-kept e (reach_with r f) fs)

  -- beside the limits
  sorted : (a b c x y z : Bool) → ((a && (b && c)) && (x && (y && z))) ≡ ((a && x) && ((b && y) && (c && z)))
  sorted true true true x y z = refl
  sorted true true false true true z = refl
  sorted true true false true false z = refl
  sorted true true false false y z = refl
  sorted true false c true y z = refl
  sorted true false c false y z = refl
  sorted false b c x y z = refl

  all-kept : ((r : Reach) (f : Field) → q r f ≡ (own f && (slots_in_table r && end_in_record r)))
      → (r : Reach) (fs : List Field)
      → all_keep q r fs ≡ (all_own own fs && (all_keep in_table r fs && all_keep in_record r fs))
  all-kept e r [] = refl
  all-kept e r (f ∷ fs) =
      rw (e (reach_with r f) f, all-kept e (reach_with r f) fs) (sorted (own f) (slots_in_table (reach_with r f)) (end_in_record (reach_with r f))
      (all_own own fs) (all_keep in_table (reach_with r f) fs) (all_keep in_record (reach_with r f) fs))

  pub limited-kept : ((r : Reach) (f : Field) → q r f ≡ (own f && (slots_in_table r && end_in_record r)))
      → (all : List Field → Bool) → ((fs : List Field) → all fs ≡ all_own own fs)
      → (fs : List Field) → (all_keep q reach_start fs ≡ true) ⇔ (T (all fs) × Limited fs)
  limited-kept e all same fs = (
    λ k.
        let (x, y) = and-true (all_own own fs) _ (sym (all-kept e reach_start fs) ∙ k) in
        let (s, t) = and-true (all_keep in_table reach_start fs) (all_keep in_record reach_start fs) y in
        (true→T (all fs) (same fs ∙ x), record { slots = (slots_kept fs).0 s; end = (room-kept fs).0 t }),
    λ (t, l).
        all-kept e reach_start fs
        ∙ and_both (all_own own fs) _ (sym (same fs) ∙ T→true (all fs) t)
        (and_both (all_keep in_table reach_start fs) _ ((slots_kept fs).1 l.slots) ((room-kept fs).1 l.end)),
  )

-- ---- the layouts of the theorems

plain-own : (fs : List Field) → plain fs ≡ all_own plain_field fs
unfolding plain
plain-own [] = refl
plain-own (f ∷ fs) = rw (plain-own fs)

lossless-own : (fs : List Field) → lossless fs ≡ all_own lossless_field fs
unfolding lossless
lossless-own [] = refl
lossless-own (f ∷ fs) = rw (lossless-own fs)

forward-own : (fs : List Field) → forward fs ≡ all_own (λ f. plain_role f.role) fs
unfolding forward
forward-own [] = refl
forward-own (f ∷ fs) = rw (forward-own fs)

pub grows-kept : (fs : List Field) → (all_keep grows reach_start fs ≡ true) ⇔ (T (plain fs) × Limited fs)
grows-kept = limited-kept grows plain_field (λ r f. refl) plain plain-own

pub keeps-kept : (fs : List Field) → (all_keep keeps reach_start fs ≡ true) ⇔ (T (lossless fs) × Limited fs)
keeps-kept = limited-kept keeps lossless_field (λ r f. refl) lossless lossless-own

pub plain-kept : (fs : List Field) → plain fs ≡ all_keep is_plain reach_start fs
plain-kept fs = plain-own fs ∙ sym (own-kept is_plain plain_field (λ r f. refl) reach_start fs)

pub forward-kept : (fs : List Field) → forward fs ≡ all_keep joins reach_start fs
forward-kept fs = forward-own fs ∙ sym (own-kept joins (λ f. plain_role f.role) (λ r f. refl) reach_start fs)
