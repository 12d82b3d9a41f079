-- Every item that a template is read to is sound, and so is every item of what is written out.
use Rattle.std.specs.Prelude.{if◌then◌else◌}
use Prim.Native.Nat.{ℕ, zero, suc, ◌+◌, ◌≤◌}
use native.Mathlib.Nat.{add-zero}
use native.Mathlib.Omega.{arith}
use mathlib.Core.Path.{◌≡◌, refl, sym, ap, ◌∙◌, subst}
use mathlib.Core.Bool.{Bool, true, false, ◌&&◌, ◌||◌}
use mathlib.Core.List.{List, [], ◌∷◌, ◌++◌}
use borrow.Author.Tests.{leb-true}
use lib.Dec.{eqb, ltb, leb}
use lib.ListN.{length, drop, replicate}
use lib.Seq.{take-append_seam}
use Rattle.layout.specs.declared.Refusal.TheVariants.{BadSize, NoRoom}
use Rattle.layout.specs.Refusals.{Result, ok, refused}
use Rattle.layout.specs.Layout.{max_layout, fields_of}
use Rattle.layout.proofs.Laws.{bound, demanded, ok-inj, no-refusal, no-number-zero}
use Rattle.perl.specs.declared.tokens.Letter.{Letter}
use Rattle.std.specs.declared.option.Option.{Option}
use Rattle.std.specs.declared.option.Option.TheVariants.{Some, None}
use Rattle.perl.specs.Tokens.{max_depth, letter_of}
use Rattle.perl.specs.Template.{Single, Template, Item, done, next, single, group, ReadTo, read, stray, letter_at, group_at, item_at, Piece, space, close, item, bad, piece_from, piece_at, piece_extra, is_item, piece_then, sequence, or_refused, template_of}
use Rattle.perl.specs.Writing.{repeated, written_out, written_out_item, text_of}
use Rattle.perl.specs.Conversion.{Converted, layout_from, convert_effect, from_perl}
use Rattle.perl_claims.specs.Claim.{result, TakenOver, Claim, Blank, Groups}
use Rattle.perl.specs.inside.Readers.{template_text, item_text}
use Rattle.perl.proofs.items.Texts.{text-group}
use Rattle.perl_claims.proofs.Spelling.{read-spelled}
use Rattle.perl_claims.proofs.Layouts.{OurLetter, our-letter, counts, SoundSingle, Every, text-fields, slots-valued}

unfoldable mutual
  Sound : Template → Type 0
  Sound done = Unit {0}
  Sound (next i t) = SoundItem i × Sound t

  SoundItem : Item → Type 0
  SoundItem (single s) = SoundSingle s
  SoundItem (group t n) = Sound t

-- ---- what is written out of sound items

every_append : (xs ys : List Single) → Every SoundSingle xs → Every SoundSingle ys → Every SoundSingle (xs ++ ys)
every_append [] ys h k = k
every_append (x ∷ xs) ys h k = (h.0, every_append xs ys h.1 k)

every-repeated : (n : ℕ) (xs : List Single) → Every SoundSingle xs → Every SoundSingle (repeated n xs)
unfolding repeated
every-repeated zero xs h = tt
every-repeated (suc n) xs h = every_append xs (repeated n xs) h (every-repeated n xs h)

mutual
  unfolding Sound written_out

  every-written : (t : Template) → Sound t → Every SoundSingle (written_out t)
  every-written done h = tt
  every-written (next i t) h = every_append (written_out_item i) (written_out t) (every-item i h.0) (every-written t h.1)

  every-item : (i : Item) → SoundItem i → Every SoundSingle (written_out_item i)
  every-item (single s) h = (h, tt)
  every-item (group t n) h = every-repeated n (written_out t) (every-written t h)

-- ---- what is read is sound

abbrev Reads : ReadTo Template → Type 0
Reads (read t e) = Sound t
Reads (stray p) = Unit {0}

abbrev ReadsItem : ReadTo Item → Type 0
ReadsItem (read i e) = SoundItem i
ReadsItem (stray p) = Unit {0}

abbrev StepSound : Piece → Type 0
StepSound space = Unit {0}
StepSound close = Unit {0}
StepSound (item i e) = SoundItem i
StepSound (bad p) = Unit {0}

letter-sound : (at : ℕ) (l : Option Letter) (cs : List ℕ) → OurLetter l → ReadsItem (letter_at at l cs)
unfolding letter_at Sound
letter-sound at (Some l) cs h = record { ours = h; count = counts cs }
letter-sound at None cs h = tt

group-sound : (at : ℕ) (cs : List ℕ) (r : ReadTo Template) → Reads r → ReadsItem (group_at at cs r)
unfolding group_at Sound
group-sound at cs (read t e) h = h
group-sound at cs (stray p) h = tt

item-sound : (depth at c : ℕ) (cs : List ℕ) (inside : Unit {0} → ReadTo Template) → Reads (inside tt) → ReadsItem (item_at depth at c cs inside)
unfolding item_at
item-sound depth at c cs inside h = go (eqb c 40 && ltb depth max_depth)
  where
    go : (t : Bool) → ReadsItem (elim t [ true ↦ group_at at cs (inside tt) | false ↦ letter_at at (letter_of c) cs ])
    go true = group-sound at cs (inside tt) h
    go false = letter-sound at (letter_of c) cs (our-letter c)

from-sound : (r : ReadTo Item) → ReadsItem r → StepSound (piece_from r)
from-sound (read i e) h = h
from-sound (stray p) h = tt

step-sound : (depth : ℕ) (filled : Bool) (at c : ℕ) (cs : List ℕ) (inside : Unit {0} → ReadTo Template) → Reads (inside tt) → StepSound (piece_at depth filled at c cs inside)
unfolding piece_at
step-sound depth filled at c cs inside h = go (eqb c 32) (eqb c 41) (ltb 0 depth && filled)
  where
    go : (s t u : Bool) → StepSound (if s then space else if t then (if u then close else bad at) else piece_from (item_at depth at c cs inside))
    go true t u = tt
    go false true true = tt
    go false true false = tt
    go false false u = from-sound (item_at depth at c cs inside) (item-sound depth at c cs inside h)

before-sound : (at : ℕ) (s : Piece) (r : ReadTo Template) → StepSound s → Reads r → Reads (piece_then at s r)
unfolding Sound
before-sound at space r h k = k
before-sound at close r h k = tt
before-sound at (item i e) (read t f) h k = (h, k)
before-sound at (item i e) (stray p) h k = tt
before-sound at (bad p) r h k = tt

done-sound : Sound done
unfolding Sound
done-sound = tt

sequence-sound : (cs : List ℕ) (depth : ℕ) (filled : Bool) (at n : ℕ) → Reads (sequence depth filled at n cs)
unfolding sequence
sequence-sound [] depth filled at n = go (eqb depth 0)
  where
    go : (t : Bool) → Reads (if t then read done at else stray at)
    go true = done-sound
    go false = tt
sequence-sound (c ∷ cs) depth filled at (suc n) = sequence-sound cs depth filled (suc at) n
sequence-sound (c ∷ cs) depth filled at zero =
    let inside : Unit {0} → ReadTo Template = λ _. sequence (suc depth) false (suc at) 0 cs in
    let s : Piece = piece_at depth filled at c cs inside in
    before-sound at s (sequence depth (filled || is_item s) (suc at) (piece_extra at s) cs) (step-sound depth filled at c
    cs inside (sequence-sound cs (suc depth) false (suc at) 0)) (sequence-sound cs depth (filled || is_item s)
    (suc at) (piece_extra at s))

parsed-sound : (template : List ℕ) (t : Template) → template_of template ≡ ok t → Sound t
unfolding template_of
parsed-sound template t e = go (sequence 0 false 0 0 template) e (sequence-sound template 0 false 0 0)
  where
    go : (r : ReadTo Template) → or_refused r ≡ ok t → Reads r → Sound t
    go (read u end) q h = subst Sound (ok-inj q) h
    go (stray p) q h = no-refusal q

-- ---- the claim

first-true : (a b : Bool) → (a && b) ≡ true → a ≡ true
first-true true b e = refl
first-true false b e = e

accepted-layout : (template buffer text : List ℕ) → layout_from template buffer ≡ ok text → (t : Template) × (template_of template ≡ ok t) × (text_of (written_out t) ≡ text) × (length text ≤ max_layout)
unfolding layout_from
accepted-layout template buffer text e =
    let (_, e₁) = demanded (leb (length template) max_layout) BadSize 0 _ text e in
    let (t, p, e₂) = bound (template_of template) _ text e₁ in
    let out : List ℕ = text_of (written_out t) in
    let e₃ = demanded (leb (length out) max_layout && leb (length out) (length buffer)) NoRoom 0 (λ _. ok out) text e₂ in
    let same : out ≡ text = ok-inj e₃.1 in
    (t, p, same, rw (← same) (leb-true (length out) max_layout (first-true (leb (length out) max_layout) (leb (length out) (length buffer)) e₃.0)))

effect : (template buffer : List ℕ) (o : Result (List ℕ)) → layout_from template buffer ≡ o → from_perl template buffer ≡ convert_effect buffer o
unfolding from_perl
effect template buffer o e = ap (convert_effect buffer) e

taken-over : (template buffer : List ℕ) (o : Result (List ℕ)) → layout_from template buffer ≡ o → (from_perl template buffer).answer.number ≡ 0 → TakenOver template buffer
unfolding fields_of
taken-over template buffer (ok text) e z =
    let k = accepted-layout template buffer text e in
    let written : result (from_perl template buffer) ≡ text_of (written_out k.0) = ap result (effect template buffer (ok text) e) ∙ take-append_seam text (drop (length text) buffer) ∙ sym k.2 in
    let every : Every SoundSingle (written_out k.0) = every-written k.0 (parsed-sound template k.0 k.1) in
    record {
      tree = k.0;
      spelled = read-spelled template k.0 k.1;
      text = written;
      short = rw (written, k.2) k.3;
      fields = λ packing. ap (fields_of packing) written ∙ text-fields packing (written_out k.0) 0 every;
      slots = slots-valued (written_out k.0) every;
    }
taken-over template buffer (refused why place) e z = no-number-zero why (sym (ap (λ (c : Converted). c.answer.number) (effect template buffer (refused why place) e)) ∙ z)

pub claim : Claim
unfolding Claim
claim template buffer z = taken-over template buffer (layout_from template buffer) refl z

-- ---- blank templates

spaces : (n at : ℕ) (filled : Bool) → sequence 0 filled at 0 (replicate n 32) ≡ read done (at + n)
unfolding sequence piece_at
spaces zero at filled = rw add-zero
spaces (suc n) at filled = rw (or-false filled) (spaces n (suc at) filled ∙ ap (read done) (let e : suc at + n ≡ at + suc n = omega arith in e))
  where
    or-false : (b : Bool) → (b || false) ≡ b
    or-false true = refl
    or-false false = refl

pub blank : Blank
unfolding Blank template_of written_out text_of
blank n = (ap or_refused (spaces n 0 false), refl)

-- ---- groups

pub groups : Groups
unfolding Groups template_text item_text
groups t n = text-group t n
