-- The readers on plain values: a letter, a group, and the turns of the loop over the items.
use Rattle.std.specs.declared.option.Option.{Option}
use Rattle.std.specs.declared.result.Result as Std
use Rattle.std.specs.declared.result.Result.TheVariants.{Ok, Err}
use Prim.Native.Nat.{ℕ, suc, ◌+◌, ◌≤◌, ◌<◌}
use native.Mathlib.Numerals.{add-one}
use native.Mathlib.Omega.{arith}
use mathlib.Core.Path.{◌≡◌, refl, sym, ap, ◌∙◌, subst}
use mathlib.Core.Bool.{Bool, true, false}
use mathlib.Core.List.{List, [], ◌++◌, append-nil, append_assoc}
use lib.ListN.{length, get_or, drop}
use Rattle.layout.specs.Layout.{max_layout}
use Rattle.perl.specs.Tokens.{max_repeat, max_depth, letter_of, number_in, digits_in, repeat_of}
use Rattle.perl.specs.declared.tokens.Numeral.{Numeral}
use Rattle.perl.specs.declared.items.Span.{Span}
use Rattle.perl.specs.Template.{Template, Item, done, group, ReadTo, read, stray, letter_at, group_at, and_then}
use Rattle.perl.specs.Writing.{repeated}
use Rattle.perl.specs.inside.Readers.{items_from, item_from, template_text, item_text, held, Inside, Stored, Again, Written}
use Rattle.perl.proofs.items.Texts.{text-done, text-next, text-group}
use Rattle.perl.proofs.items.Blocks.{held-placed, held-small, inside-end, stored-none, stored-append}
use Rattle.perl.proofs.items.Letters.{was_read, was-stray, writes, strays}
use Rattle.perl.proofs.readers.Readings.{ItemEnds, item-end, from-end-top, from-end-open, from-space, from-close, from-bare, from-item, from-stray, item-letter, item-deep, item-group, close-inside, group-is}

-- ---- a letter

pub letter-item : (depth : ℕ) (text : List ℕ) (p : ℕ) {to : Option ℕ} {d d' : List ℕ} {r : Std.Result Span ℕ} → (get_or text p 0 ≡ 40 → ⊥)
    → Written item_text (letter_at p (letter_of (get_or text p 0)) (drop (suc p) text)) to d r d'
    → Written item_text (item_from depth text p) to d r d'
letter-item depth text p e w = rw (item-letter depth text p e) w

-- ---- a group

pub too-deep : (depth : ℕ) (text : List ℕ) (p : ℕ) (to : Option ℕ) (d : List ℕ) → get_or text p 0 ≡ 40 → max_depth ≤ depth → Written item_text (item_from depth text p) to d (Err p) d
too-deep depth text p to d e h = strays (item-deep depth text p e h) refl

module _ (depth : ℕ) (text : List ℕ) (p : ℕ) (opening : get_or text p 0 ≡ 40) (shallow : depth < max_depth) (inside : p < length text) (to : Option ℕ) (old : List ℕ) (r : Std.Result Span ℕ) (new : List ℕ)
    (gave : Written template_text (items_from (depth + 1) false text (p + 1)) to old r new) where
  abbrev inner : ReadTo Template
  inner = items_from (suc depth) false text (suc p)

  wrote : Written template_text inner to old r new
  wrote = rw (add-one depth, add-one p) at gave

  pub group-stray : (q : ℕ) → r ≡ Err q → Written item_text (item_from depth text p) to old (Err q) new
  unfolding group_at
  group-stray q e = strays (item-group depth text p opening shallow ∙ (rw (was-stray inner wrote q e))) wrote.long

  module _ (s : Span) (e : r ≡ Ok s) where
    pub group-bounds : Inside to → (s.next < length text) × (held to ≤ held s.end) × Inside s.end
    group-bounds h =
        let k = was_read inner wrote s e in
        let low : held to ≤ suc max_layout = held-small to h in
        ((close-inside depth text p opening shallow inside k.0 s.next k.1).1, omega (arith, ap held k.2.place, held-placed (held to + length (template_text k.0))), inside-end k.2)

    pub group-written : (n : Numeral) (times : ℕ) (all : Option ℕ) (new' : List ℕ)
        → (n.value ≡ number_in max_repeat 0 (drop (s.next + 1) text)) × (n.digits ≡ digits_in max_repeat 0 (drop (s.next + 1) text)) → times ≡ repeat_of n.value
        → Again to s.end new times all new'
        → Written item_text (item_from depth text p) to old (Ok (record { next = s.next + 1 + n.digits; end = all })) new'
    group-written n times all new' number given more =
        let (t, q, st) = was_read inner wrote s e in
        let many : times ≡ repeat_of (number_in max_repeat 0 (drop (suc s.next) text)) = given ∙ (rw (number.0, add-one)) in
        let is : repeated times (template_text t) ≡ item_text (group t (repeat_of (number_in max_repeat 0 (drop (suc s.next) text)))) = rw many (sym (text-group t _)) in
        writes (group-is depth text p opening shallow inside t s.next q ∙ (rw (number.1, add-one))) (subst (λ (x : List ℕ). Stored x to old all new') is (more (template_text t) old st))

-- ---- the loop over the items

-- the whole reading, where the text `so-far` was read before the rest
abbrev Rest : ReadTo Template → List ℕ → ReadTo Template → Type 0
Rest whole so-far (read t e) = (u : Template) × (whole ≡ read u e) × (template_text u ≡ so-far ++ template_text t)
Rest whole so-far (stray p) = whole ≡ stray p

rest-none : (r : ReadTo Template) → Rest r [] r
rest-none (read t e) = (t, refl, refl)
rest-none (stray p) = refl

rest-item : (whole : ReadTo Template) (so-far : List ℕ) (i : Item) (r : ReadTo Template) → Rest whole so-far (and_then i r) → Rest whole (so-far ++ item_text i) r
rest-item whole so-far i (read t e) (u, q, s) = (u, q, s ∙ ap (λ (x : List ℕ). so-far ++ x) (text-next i t) ∙ sym (append_assoc so-far (item_text i) (template_text t)))
rest-item whole so-far i (stray p) h = h

pub record Turn (depth : ℕ) (text : List ℕ) (at : ℕ) (to : Option ℕ) (old : List ℕ) (span : Span) (filled : Bool) (new : List ℕ) : Type 0 where
  pub from : at ≤ span.next
  pub within : span.next ≤ length text
  pub so-far : List ℕ
  pub stored : Stored so-far to old span.end new
  pub rest : Rest (items_from depth false text at) so-far (items_from depth filled text span.next)

module _ (depth : ℕ) (text : List ℕ) (at : ℕ) (to : Option ℕ) (old : List ℕ) where
  abbrev Done : Std.Result Span ℕ → List ℕ → Type 0
  Done r new = Written template_text (items_from depth false text at) to old r new

  pub turn-none : at ≤ length text → Inside to → Turn depth text at to old (record { next = at; end = to }) false old
  turn-none h k = record { from = omega arith; within = h; so-far = []; stored = stored-none old to k; rest = rest-none (items_from depth false text at) }

  module _ (span : Span) (filled : Bool) (new : List ℕ) (m : Turn depth text at to old span filled new) where
    ends-stray : {p : ℕ} → items_from depth filled text span.next ≡ stray p → Done (Err p) new
    ends-stray e = strays (subst (Rest (items_from depth false text at) m.so-far) e m.rest) m.stored.long

    ends_read : items_from depth filled text span.next ≡ read done span.next → Done (Ok span) new
    ends_read e =
        let (u, q, s) = subst (Rest (items_from depth false text at) m.so-far) e m.rest in
        let is : m.so-far ≡ template_text u = sym (s ∙ ap (λ (x : List ℕ). m.so-far ++ x) text-done ∙ append-nil m.so-far) in
        writes q (subst (λ (x : List ℕ). Stored x to old span.end new) is m.stored)

    pub ends-top : length text ≤ span.next → depth ≡ 0 → Done (Ok span) new
    ends-top h d = ends_read (from-end-top depth text filled span.next h d)

    pub ends_open : length text ≤ span.next → (depth ≡ 0 → ⊥) → Done (Err span.next) new
    ends_open h d = ends-stray (from-end-open depth text filled span.next h d)

    module _ (inside : span.next < length text) where
      pub turn-space : get_or text span.next 0 ≡ 32 → Turn depth text at to old (record { next = span.next + 1; end = span.end }) filled new
      turn-space e =
          rw add-one (record {
            from = omega (arith, m.from);
            within = inside;
            so-far = m.so-far;
            stored = m.stored;
            rest = subst (Rest (items_from depth false text at) m.so-far) (from-space depth text filled span.next inside e) m.rest;
          })

      module _ (no-space : get_or text span.next 0 ≡ 32 → ⊥) where
        module _ (closing : get_or text span.next 0 ≡ 41) where
          pub ends_close : (depth ≡ 0 → ⊥) → filled ≡ true → Done (Ok span) new
          ends_close d f = ends_read (from-close depth text filled span.next inside no-space closing d f)

          pub ends-bare : (0 < depth → filled ≡ true → ⊥) → Done (Err span.next) new
          ends-bare h = ends-stray (from-bare depth text filled span.next inside no-space closing h)

        module _ (no-close : get_or text span.next 0 ≡ 41 → ⊥) (r : Std.Result Span ℕ) (new' : List ℕ) (w : Written item_text (item_from depth text span.next) span.end new r new') where
          pub ends-bad : (p : ℕ) → r ≡ Err p → Done (Err p) new'
          ends-bad p q =
              strays (subst (Rest (items_from depth false text at) m.so-far) (from-stray depth text filled span.next inside no-space no-close p (was-stray (item_from depth text span.next) w p q)) m.rest)
              (w.long ∙ m.stored.long)

          module _ (s : Span) (q : r ≡ Ok s) where
            pub item-after : (span.next < s.next) × (s.next ≤ length text)
            item-after = subst (ItemEnds span.next (length text)) (was_read (item_from depth text span.next) w s q).1 (item-end depth text span.next inside)

            pub turn-item : length old ≡ max_layout → Turn depth text at to old s true new'
            turn-item room =
                let (a, k, st) = was_read (item_from depth text span.next) w s q in
                record {
                  from = omega (arith, m.from, item-after.0);
                  within = item-after.1;
                  so-far = m.so-far ++ item_text a;
                  stored = stored-append room m.stored st;
                  rest =
                      rest-item _ m.so-far a (items_from depth true text s.next)
                      (subst (Rest (items_from depth false text at) m.so-far) (from-item depth text filled span.next inside
                      no-space no-close a s.next k) m.rest);
                }
