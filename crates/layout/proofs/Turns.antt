-- The turns of `parse`'s loop, on plain values: what is read stands in front of what is to come, and each turn moves
-- one field over.
use Prim.Native.Nat.{ℕ, suc, ◌+◌, ◌≤◌, ◌<◌}
use native.Mathlib.Omega.{arith}
use mathlib.Core.Path.{◌≡◌, refl, sym, ap, ◌∙◌}
use mathlib.Core.Bool.{Bool}
use mathlib.Core.List.{List, [], ◌∷◌, ◌++◌, map, append-nil, append_assoc}
use lib.ListN.{length, take, set, length-set}
use Rattle.layout.specs.declared.Field.{Field}
use Rattle.layout.specs.declared.Item.{Item}
use Rattle.layout.specs.declared.Refused.{Refused}
use Rattle.std.specs.declared.result.Result.TheVariants.{Ok, Err}
use Rattle.layout.specs.Refusals.{Result, ok, refused, ◌>>=◌}
use Rattle.layout.specs.Layout.{max_layout, step_then, fields_of, slot_count}
use Rattle.layout.specs.Codes.{field_of, code_for}
use Rattle.layout.specs.inside.Parsing.{rest, decoded, Parses, step_found, FoundAs}
use Rattle.layout.proofs.Laws.{at_byte, at-end}
use Rattle.layout.proofs.Decoded.{decoded-length, decoded-more, plan-more, slots-more, slots-le}

-- ---- what is read goes before what is to come

abbrev pub after : List Field → Result (List Field) → Result (List Field)
after fs (ok gs) = ok (fs ++ gs)
after fs (refused n p) = refused n p

pub after_none : (r : Result (List Field)) → r ≡ after [] r
after_none (ok gs) = refl
after_none (refused n p) = refl

pub after_one : (fs : List Field) (f : Field) (r : Result (List Field)) → after fs (r >>= (λ gs. ok (f ∷ gs))) ≡ after (fs ++ (f ∷ [])) r
after_one fs f (ok gs) = ap ok (sym (append_assoc fs (f ∷ []) gs))
after_one fs f (refused n p) = refl

-- ---- the loop: of the codes, which are `size`, n are read from the text before `at`, and `slots` of these take a slot

pub record Reading (packing : Bool) (text : List ℕ) (size at n slots : ℕ) (ws : List ℕ) : Type 0 where
  pub few : n ≤ at
  pub long : length ws ≡ size
  pub within : at ≤ length text
  pub less : slots ≤ n
  pub so-far : rest packing text 0 ≡ after (decoded n ws) (rest packing text at)
  pub taken : slots ≡ slot_count (decoded n ws)
  pub plan : map code_for (decoded n ws) ≡ take n ws

module _ (packing : Bool) (text : List ℕ) (size : ℕ) where
  pub reading-none : (ws : List ℕ) → length ws ≡ size → Reading packing text size 0 0 0 ws
  unfolding decoded slot_count
  reading-none ws h =
      record { few = omega arith; long = h; within = omega arith; less = omega arith; so-far = after_none (rest packing text 0); taken = refl; plan = refl }

  module _ (at n slots : ℕ) (ws : List ℕ) (r : Reading packing text size at n slots ws) (fits : (length text ≤ size) × (size ≤ max_layout)) where
    pub reading-spaces : (p : ℕ) → at ≤ p → p ≤ length text → rest packing text at ≡ rest packing text p → Reading packing text size p n slots ws
    reading-spaces p h k e =
        record { few = omega (arith, r.few); long = r.long; within = k; less = r.less; so-far = r.so-far ∙ ap (after (decoded n ws)) e; taken = r.taken; plan = r.plan }

    pub reading-more : (i : Item) → at < length text → FoundAs packing text at (Ok i) → Reading packing text size (at + 1 + i.more) (n + 1) (slots + i.slots) (set ws n i.code)
    reading-more i h a =
        let w = i.code in
        let m = i.more in
        let step = a.step in
        let e : rest packing text at ≡ step_then (step_found (Ok i)) (rest packing text (suc at + m)) = rw step at (at_byte packing text at h) in
        let d : decoded (n + 1) (set ws n w) ≡ decoded n ws ++ (field_of w ∷ []) = decoded-more n w ws (omega (arith, fits, r.few, r.long)) in
        let next : at + 1 + m ≡ suc at + m = omega arith in
        record {
          few = omega (arith, r.few);
          long = length-set ws n w ∙ r.long;
          within = omega (arith, a.told.1);
          less = omega (arith, r.less, a.told.0, slots-le (field_of w));
          so-far = r.so-far ∙ ap (after (decoded n ws)) e ∙ after_one (decoded n ws) (field_of w) (rest packing text (suc at + m)) ∙ (rw (d, next));
          taken = rw (d, slots-more (decoded n ws) (field_of w), ← r.taken, a.told.0);
          plan = plan-more n w ws (omega (arith, fits, r.few, r.long)) r.plan a.told.2;
        }

    pub reading-bad : (q : Refused) → at < length text → FoundAs packing text at (Err q) → Parses (fields_of packing text) (Err q) ws
    unfolding fields_of rest
    reading-bad q h a =
        let step = a.step in
        let e : rest packing text at ≡ refused q.why q.place = rw step at (at_byte packing text at h) in
        let o : fields_of packing text ≡ refused q.why q.place = r.so-far ∙ ap (after (decoded n ws)) e in
        rw o (record { answer = refl; codes = tt; plan = tt; room = omega (arith, fits, r.long) })

    pub reading-done : length text ≤ at → Parses (fields_of packing text) (Ok (record { count = n; slots = slots })) ws
    unfolding fields_of rest
    reading-done h =
        let e : rest packing text at ≡ ok [] = at-end packing text at h in
        let o : fields_of packing text ≡ ok (decoded n ws) = r.so-far ∙ ap (after (decoded n ws)) e ∙ ap ok (append-nil (decoded n ws)) in
        let l : length (decoded n ws) ≡ n = decoded-length n ws (omega (arith, fits, r.few, r.within, r.long)) in
        rw o (record { answer = rw (l, ← r.taken) refl; codes = ap (λ (i : ℕ). decoded i ws) l; plan = rw l r.plan; room = omega (arith, fits, r.long) })
