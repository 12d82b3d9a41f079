-- At each place stands its field: a step that is a field has read it there, and the text from there on is what is left
-- of it. What is read next lies after the bytes that belong to the field.
use Prim.Native.Nat.{ℕ, zero, suc, ◌+◌, ◌≤◌, ◌<◌}
use native.Mathlib.Omega.{arith}
use native.Mathlib.Nat.{lt_of_not-le}
use native.Mathlib.Decide.{dec_le}
use mathlib.Core.Path.{◌≡◌, refl, sym, ◌∙◌, subst}
use mathlib.Core.Bool.{true}
use mathlib.Core.List.{List, [], ◌∷◌}
use lib.ListN.{length, get_or, drop, drop_of_length-le}
use lib.Seq.{drop-cons}
use Rattle.layout.specs.Refusals.{Result, ok}
use Rattle.layout.specs.Layout.{Step, space, field, bad, step_of, step_extra}
use Rattle.layout.proofs.Laws.{no-refusal, bound, ok-inj}
use Rattle.promises.specs.Placed.{Placed, placed_before, placed_from, placed_fields}
use Rattle.promises.proofs.Places.{forgotten}
use Rattle.promises_claims.specs.Claim.{StandsAt, Stand, PlacesOf}

-- ---- the whole text

-- what is left of a text from a place on
record Left (text : List ℕ) (at c : ℕ) (cs : List ℕ) : Type 0 where
  inside : at < length text
  here : get_or text at 0 ≡ c
  after : drop (suc at) text ≡ cs

left : (text : List ℕ) (at c : ℕ) (cs : List ℕ) → drop at text ≡ c ∷ cs → Left text at c cs
left text at c cs e = elim (dec_le (length text) at) [
  | yes h ↦ (let none : [] ≡ c ∷ cs = sym (drop_of_length-le text h) ∙ e in let z : ◌≡◌ {A = ℕ} 0 1 = cc in absurd (omega arith))
  | no h ↦ (
      let k : at < length text = lt_of_not-le h in
      let both : get_or text at 0 ∷ drop (suc at) text ≡ c ∷ cs = sym (drop-cons text at 0 k) ∙ e in
      record { inside = k; here = cc; after = cc }
      )
]

-- fields that stand from a byte on stand from every byte before it on
stand-weaker : (text : List ℕ) (from at : ℕ) → at ≤ from → (ps : List Placed) → Stand text from ps → Stand text at ps
stand-weaker text from at h [] s = tt
stand-weaker text from at h (p ∷ ps) (n, here, later) =
    (n, record { after = omega (arith, here.after); inside = here.inside; found = here.found }, later)

module _ (text : List ℕ) where
  stand-step : (at c : ℕ) (cs : List ℕ) (s : Step) (rest : Result (List Placed)) → Left text at c cs
      → step_of true at c cs ≡ s
      → ((qs : List Placed) → rest ≡ ok qs → Stand text (suc at + step_extra s) qs)
      → (ps : List Placed) → placed_before at s rest ≡ ok ps → Stand text at ps
  stand-step at c cs space rest l e ih ps k = stand-weaker text (suc at + 0) at (omega arith) ps (ih ps k)
  stand-step at c cs (field f n) rest l e ih ps k =
      let (qs, k₁, k₂) = bound rest (λ qs. ok (record { what = f; place = at } ∷ qs)) ps k in
      let here : StandsAt text at (record { what = f; place = at }) n =
      record { after = omega arith; inside = l.inside; found = rw (l.here, l.after) e } in
      let later : Stand text (at + 1 + n) qs = stand-weaker text (suc at + n) (at + 1 + n) (omega arith) qs (ih qs k₁) in
      subst (Stand text at) (ok-inj k₂) (n, here, later)
  stand-step at c cs (bad why place) rest l e ih ps k = no-refusal k

  stand-from : (cs : List ℕ) (at n : ℕ) → drop at text ≡ cs → (ps : List Placed) → placed_from at n cs ≡ ok ps
      → Stand text (at + n) ps
  unfolding placed_from
  stand-from [] at n d ps e = subst (Stand text (at + n)) (ok-inj e) tt
  stand-from (c ∷ cs) at (suc n) d ps e =
      stand-weaker text (suc at + n) (at + suc n) (omega arith) ps
      (stand-from cs (suc at) n (left text at c cs d).after ps e)
  stand-from (c ∷ cs) at zero d ps e =
      let l : Left text at c cs = left text at c cs d in
      let s : Step = step_of true at c cs in
      stand-weaker text at (at + 0) (omega arith) ps
      (stand-step at c cs s (placed_from (suc at) (step_extra s) cs) l refl
      (λ qs k. stand-from cs (suc at) (step_extra s) l.after qs k) ps e)

  pub stands : (ps : List Placed) → placed_fields text ≡ ok ps → Stand text 0 ps
  unfolding placed_fields
  stands ps e = stand-from text 0 0 refl ps e

  pub places_of : PlacesOf text
  places_of = record { fields = forgotten text; stand = stands }
