-- The fields with their places: without the places they are the layout reader's, and a walk over the text that passes
-- spaces and whole fields comes to the place of each.
use Rattle.layout.specs.declared.Role.{Role}
use Rattle.std.specs.declared.option.Option.{Option}
use Rattle.std.specs.declared.option.Option.TheVariants.{Some, None}
use Rattle.std.specs.Prelude.{if◌then◌else◌}
use Prim.Native.Nat.{ℕ, zero, suc, ◌+◌, ◌-◌, ◌≤◌, ◌<◌}
use native.Mathlib.Nat.{add-zero}
use native.Mathlib.Numerals.{add-one}
use native.Mathlib.Omega.{arith}
use mathlib.Core.Path.{◌≡◌, refl, sym, ap, ◌∙◌}
use mathlib.Core.Bool.{Bool, true, false}
use mathlib.Core.List.{List, [], ◌∷◌}
use borrow.Author.Tests.{eq-eqb, eqb-true}
use lib.Dec.{eqb}
use lib.ListN.{length, get_or, drop, drop_of_length-le, length-drop}
use lib.Seq.{drop-nil, drop-cons, drop-drop}
use Rattle.layout.specs.declared.Field.{Field}
use Rattle.layout.specs.declared.Refusal.{Refusal}
use Rattle.layout.specs.declared.Refusal.TheVariants.{BadType, BadCount, BadMove}
use Rattle.layout.specs.Refusals.{Result, ok, refused, ◌>>=◌, demand}
use Rattle.layout.specs.Layout.{type_of, flagged, count_of, count_length, in_limit, has_meaning, to_nat, Step, space, field, bad, step_from, field_after, field_at, step_of, step_extra, step_then, fields_from, fields_of}
use Rattle.layout.specs.inside.Parsing.{TailAt}
use Rattle.layout.proofs.Laws.{no-refusal, bound, ok-inj}
use Rattle.layout.proofs.Steps.{count-within, flag-within}
use Rattle.promises.specs.Placed.{Placed, fields_in, without_places, placed_before, placed_from, placed_fields, place_of}
use Rattle.promises.specs.inside.Walk.{PlaceOf}

-- ---- without the places

forget-before : (at : ℕ) (s : Step) (r : Result (List Placed)) → without_places (placed_before at s r) ≡ step_then s (without_places r)
forget-before at space r = refl
forget-before at (field f n) (ok ps) = refl
forget-before at (field f n) (refused why place) = refl
forget-before at (bad why place) r = refl

forget-from : (cs : List ℕ) (at n : ℕ) → without_places (placed_from at n cs) ≡ fields_from true at n cs
unfolding placed_from fields_from
forget-from [] at n = refl
forget-from (c ∷ cs) at (suc n) = forget-from cs (suc at) n
forget-from (c ∷ cs) at zero =
    let s : Step = step_of true at c cs in
    forget-before at s (placed_from (suc at) (step_extra s) cs) ∙ ap (step_then s) (forget-from cs (suc at) (step_extra s))

pub forgotten : (text : List ℕ) → without_places (placed_fields text) ≡ fields_of true text
unfolding placed_fields fields_of
forgotten text = forget-from text 0 0

-- the fields of an accepted text have places
pub record Placing (text : List ℕ) (fs : List Field) : Type 0 where
  pub placed : List Placed
  pub here : placed_fields text ≡ ok placed
  pub same : fields_in placed ≡ fs

pub placing : (text : List ℕ) (fs : List Field) → fields_of true text ≡ ok fs → Placing text fs
placing text fs e = go (placed_fields text) refl (forgotten text ∙ e)
  where
    go : (r : Result (List Placed)) → placed_fields text ≡ r → without_places r ≡ ok fs → Placing text fs
    go (ok ps) p k = record { placed = ps; here = p; same = ok-inj k }
    go (refused why place) p k = no-refusal k

pub placed-fields : (text : List ℕ) (ps : List Placed) → placed_fields text ≡ ok ps → fields_of true text ≡ ok (fields_in ps)
placed-fields text ps e = sym (forgotten text) ∙ ap without_places e

-- a refused text is refused just so
pub placed-refused : (text : List ℕ) (why : Refusal) (place : ℕ) → fields_of true text ≡ refused why place → placed_fields text ≡ refused why place
placed-refused text why place e = go (placed_fields text) refl (forgotten text ∙ e)
  where
    go : (r : Result (List Placed)) → placed_fields text ≡ r → without_places r ≡ refused why place → r ≡ refused why place
    go (ok ps) p k = no-refusal (sym k)
    go (refused why' place') p k = cc

-- ---- one step of the text

unfoldable pub placed_rest : List ℕ → ℕ → Result (List Placed)
unfolding placed_from
placed_rest text at = placed_from at 0 (drop at text)

skipped : (cs : List ℕ) (at n : ℕ) → placed_from at n cs ≡ placed_from (at + n) 0 (drop n cs)
unfolding placed_from
skipped [] at n = rw drop-nil
skipped (c ∷ cs) at zero = rw add-zero
skipped (c ∷ cs) at (suc n) = skipped cs (suc at) n ∙ ap (λ (i : ℕ). placed_from i 0 (drop n cs)) (let e : suc at + n ≡ at + suc n = omega arith in e)

at_byte : (text : List ℕ) (at : ℕ) → at < length text
    → placed_rest text at ≡ placed_before at (step_of true at (get_or text at 0) (drop (suc at) text)) (placed_rest text (suc at + step_extra (step_of true at (get_or text at 0) (drop (suc at) text))))
unfolding placed_rest placed_from
at_byte text at h =
    let s : Step = step_of true at (get_or text at 0) (drop (suc at) text) in
    ap (placed_from at 0) (drop-cons text at 0 h)
    ∙ ap (placed_before at s) (skipped (drop (suc at) text) (suc at) (step_extra s) ∙ ap (placed_from (suc at + step_extra s) 0) (drop-drop (step_extra s) (suc at) text))

at-end : (text : List ℕ) (at : ℕ) → length text ≤ at → placed_rest text at ≡ ok []
unfolding placed_rest placed_from
at-end text at h = rw (drop_of_length-le text h)

over-space : (text : List ℕ) (at : ℕ) → at < length text → get_or text at 0 ≡ 32 → placed_rest text at ≡ placed_rest text (suc at)
unfolding step_of
over-space text at h e = at_byte text at h ∙ rw (eq-eqb (get_or text at 0) 32 e, add-zero)

-- ---- what a step has read: a space, or a type character with its flag and its count

abbrev tail_length : List ℕ → ℕ
tail_length cs = to_nat (flagged cs) + count_length (drop (to_nat (flagged cs)) cs)

abbrev pub Reads : ℕ → List ℕ → Step → Type 0
Reads c cs space = c ≡ 32
Reads c cs (field f m) = (type_of c ≡ Some f.role) × (m ≡ tail_length cs)
Reads c cs (bad why place) = Unit {0}

reads_end : (p q c : ℕ) (cs : List ℕ) (f : Field) (l m : Bool) → type_of c ≡ Some f.role
    → Reads c cs (step_from (demand l BadCount p >>= (λ _. demand m BadMove q >>= (λ _. ok (f, tail_length cs)))))
reads_end p q c cs f false m e = tt
reads_end p q c cs f true false e = tt
reads_end p q c cs f true true e = (e, refl)

reads-typed : (at c : ℕ) (cs : List ℕ) (t : Option Role) → type_of c ≡ t
    → Reads c cs (step_from (elim t [ Some k ↦ field_after true at k cs | None ↦ refused BadType at ]))
unfolding field_after
reads-typed at c cs (Some k) e =
    let u = flagged cs in
    let n = count_of (drop (to_nat u) cs) in
    reads_end (suc at + to_nat u) at c cs (record { role = k; unsigned = u; count = n }) (in_limit n) (has_meaning true k n) e
reads-typed at c cs None e = tt

pub reads-step : (at c : ℕ) (cs : List ℕ) → Reads c cs (step_of true at c cs)
unfolding step_of field_at
reads-step at c cs = chosen (eqb c 32) refl (reads-typed at c cs (type_of c) refl)
  where
    chosen : (t : Bool) → eqb c 32 ≡ t → Reads c cs (step_from (field_at true at c cs)) → Reads c cs (if t then space else step_from (field_at true at c cs))
    chosen true e h = eqb-true c 32 e
    chosen false e h = h

-- ---- the place after a flag and a count

module _ (text : List ℕ) (p b v e : ℕ) (tail : TailAt text (p + 1) b v e) where
  abbrev u : ℕ
  u = to_nat (flagged (drop (suc p) text))

  bit : b ≡ u
  bit = rw add-one at tail.0

  from-there : drop (p + 1 + b) text ≡ drop u (drop (suc p) text)
  from-there = ap (λ (i : ℕ). drop i text) (let h : p + 1 + b ≡ suc p + u = omega (arith, bit) in h) ∙ sym (drop-drop u (suc p) text)

  pub next_place : e ≡ suc p + tail_length (drop (suc p) text)
  next_place =
      let l : count_length (drop (p + 1 + b) text) ≡ count_length (drop u (drop (suc p) text)) = ap count_length from-there in
      omega (arith, tail.1.1, bit)

  pub next-within : p < length text → e ≤ length text
  next-within h =
      let f : u ≤ length text - suc p = rw (← length-drop) (flag-within (drop (suc p) text)) in
      let l : count_length (drop (p + 1 + b) text) ≤ length text - (p + 1 + b) = rw (← length-drop) (count-within (drop (p + 1 + b) text)) in
      omega (arith, tail.1.1, bit)

-- ---- the walk, in front of the byte `at`, with `left` fields left to pass

-- the fields from here on, among which the one that is looked for is number `left`
pub record Ahead (text : List ℕ) (k left at : ℕ) (ps : List Placed) : Type 0 where
  pub ahead : List Placed
  pub here : placed_rest text at ≡ ok ahead
  pub same : place_of (length text) ahead left ≡ place_of (length text) ps k

pub record Walking (text : List ℕ) (k left at : ℕ) : Type 0 where
  pub within : at ≤ length text
  pub on : (ps : List Placed) → placed_fields text ≡ ok ps → Ahead text k left at ps

pub walking-none : (text : List ℕ) (k : ℕ) → Walking text k k 0
unfolding placed_fields placed_rest
walking-none text k = record { within = omega arith; on = λ ps e. record { ahead = ps; here = e; same = refl } }

-- the field that stands here, and those after it
record Standing (text : List ℕ) (at : ℕ) (qs : List Placed) : Type 0 where
  it : Placed
  others : List Placed
  split : qs ≡ it ∷ others
  place : it.place ≡ at
  after : placed_rest text (suc at + tail_length (drop (suc at) text)) ≡ ok others

standing : (text : List ℕ) (at : ℕ) (qs : List Placed) → at < length text → (get_or text at 0 ≡ 32 → ⊥) → placed_rest text at ≡ ok qs → Standing text at qs
standing text at qs h solid e =
    let cs : List ℕ = drop (suc at) text in
    let s : Step = step_of true at (get_or text at 0) cs in
    go s (reads-step at (get_or text at 0) cs) (sym (at_byte text at h) ∙ e)
  where
    go : (s : Step) → Reads (get_or text at 0) (drop (suc at) text) s → placed_before at s (placed_rest text (suc at + step_extra s)) ≡ ok qs → Standing text at qs
    go space t k = absurd (solid t)
    go (field f m) t k =
        let (rs, k₁, k₂) = bound (placed_rest text (suc at + m)) (λ ps. ok (record { what = f; place = at } ∷ ps)) qs k in
        record { it = record { what = f; place = at }; others = rs; split = sym (ok-inj k₂); place = refl; after = ap (λ (i : ℕ). placed_rest text (suc at + i)) (sym t.1) ∙ k₁ }
    go (bad why place) t k = no-refusal k

module _ (text : List ℕ) (k left at : ℕ) (w : Walking text k left at) where
  pub walking-space : at < length text → get_or text at 0 ≡ 32 → Walking text k left (at + 1)
  walking-space h e = record {
    within = omega arith;
    on = λ ps p.
        let a : Ahead text k left at ps = w.on ps p in
        record { ahead = a.ahead; here = rw add-one (sym (over-space text at h e) ∙ a.here); same = a.same };
  }

  pub walking-found : at < length text → (get_or text at 0 ≡ 32 → ⊥) → left ≡ 0 → PlaceOf text k at
  unfolding place_of
  walking-found h solid z = record {
    within = w.within;
    same = λ ps p.
        let a : Ahead text k left at ps = w.on ps p in
        let s : Standing text at a.ahead = standing text at a.ahead h solid a.here in
        sym s.place ∙ (rw (s.split, z) at a.same);
  }

  pub walking_on : at < length text → (get_or text at 0 ≡ 32 → ⊥) → (left ≡ 0 → ⊥) → (b v e : ℕ) → TailAt text (at + 1) b v e → Walking text k (left - 1) e
  unfolding place_of
  walking_on h solid z b v e tail = record {
    within = next-within text at b v e tail h;
    on = λ ps p.
        let a : Ahead text k left at ps = w.on ps p in
        let s : Standing text at a.ahead = standing text at a.ahead h solid a.here in
        let more : left ≡ suc (left - 1) = omega arith in
        let same : place_of (length text) (s.it ∷ s.others) (suc (left - 1)) ≡ place_of (length text) ps k = rw (s.split, more) at a.same in
        record { ahead = s.others; here = rw (next_place text at b v e tail) s.after; same = same };
  }

  pub walking-done : length text ≤ at → PlaceOf text k at
  unfolding place_of
  walking-done h = record {
    within = w.within;
    same = λ ps p.
        let a : Ahead text k left at ps = w.on ps p in
        let none : [] ≡ a.ahead = ok-inj (sym (at-end text at h) ∙ a.here) in
        let end : at ≡ length text = omega (arith, w.within) in
        end ∙ (rw (← none) at a.same);
  }
