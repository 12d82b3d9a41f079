-- What a reader of the code has read and written, on plain values; and a letter with its count.
use Rattle.std.specs.declared.option.Option.{Option}
use Rattle.std.specs.declared.option.Option.TheVariants.{Some, None}
use Rattle.std.specs.declared.result.Result as Std
use Rattle.std.specs.declared.result.Result.TheVariants.{Ok, Err}
use Prim.Native.Nat.{ℕ, suc, ◌+◌, ◌-◌, ◌≤◌}
use native.Mathlib.Omega.{arith}
use mathlib.Core.Path.{◌≡◌, refl, sym, ap, ◌∙◌, subst}
use mathlib.Core.List.{List, ◌∷◌, ◌++◌}
use lib.ListN.{length, take, drop, length-drop}
use lib.Seq.{take_all}
use Rattle.layout.specs.Layout.{max_layout}
use Rattle.record.specs.Bytes.{store_at}
use Rattle.perl.specs.declared.tokens.Letter.{Letter}
use Rattle.perl.specs.declared.items.Span.{Span}
use Rattle.perl.specs.Tokens.{max_template_count, digits_in}
use Rattle.perl.specs.Template.{Item, single, ReadTo, read, stray, letter_at}
use Rattle.perl.specs.Writing.{flag_text}
use Rattle.perl.specs.inside.Readers.{placed, held, item_text, Stored, span_from, Written}
use Rattle.perl.proofs.tokens.Numbers.{digits-within}
use Rattle.perl.proofs.items.Texts.{text-single}

-- ---- what was read, by what the reader says

module _ {A : Type 0} {text : A → List ℕ} {to : Option ℕ} {old : List ℕ} {r : Std.Result Span ℕ} {new : List ℕ} where
  pub was_read : (o : ReadTo A) → Written text o to old r new → (s : Span) → r ≡ Ok s → (a : A) × (o ≡ read a s.next) × Stored (text a) to old s.end new
  unfolding span_from
  was_read (read a next) w s q =
      let same : s ≡ record { next = next; end = placed (held to + length (text a)) } = cc w.says in
      (a, ap (read a) (sym (ap (λ (x : Span). x.next) same)), record { place = ap (λ (x : Span). x.end) same; long = w.long; bytes = w.bytes a next refl })
  was_read (stray p) w s q = let z : ◌≡◌ {A = ℕ} 0 1 = cc w.says in absurd (omega arith)

  pub was-stray : (o : ReadTo A) → Written text o to old r new → (p : ℕ) → r ≡ Err p → o ≡ stray p
  unfolding span_from
  was-stray (read a e) w p q = let z : ◌≡◌ {A = ℕ} 0 1 = cc w.says in absurd (omega arith)
  was-stray (stray p') w p q = let same : p' ≡ p = cc w.says in ap stray same

module _ {A : Type 0} {text : A → List ℕ} {o : ReadTo A} {to : Option ℕ} {old new : List ℕ} where
  pub writes : {a : A} {s : Span} → o ≡ read a s.next → Stored (text a) to old s.end new → Written text o to old (Ok s) new
  unfolding span_from
  writes {a} {s} q st =
      let again : (b : A) (n : ℕ) → read b n ≡ read a s.next → a ≡ b = λ b n k. cc in
      rw q (record {
        says = ap (λ (e : Option ℕ). Ok (record { next = s.next; end = e })) st.place;
        long = st.long;
        bytes = λ b n k. subst (λ (x : A). held to + length (text x) ≤ max_layout → new ≡ store_at old (held to) (text x))
            (again b n (sym k)) st.bytes;
      })

  pub strays : {p : ℕ} → o ≡ stray p → length new ≡ length old → Written text o to old (Err p) new
  unfolding span_from
  strays {p} q l = rw q (record { says = refl; long = l; bytes = λ a n k. (let z : ◌≡◌ {A = ℕ} 0 1 = cc in absurd (omega arith)) })

-- ---- the rest of a text, as the code takes it

module _ (text : List ℕ) (k : ℕ) where
  pub rest-is : take (length text - k) (drop k text) ≡ drop k text
  rest-is = take_all (length text - k) (drop k text) (omega (arith, length-drop k text))

  pub rest-long : length (take (length text - k) (drop k text)) ≡ length text - k
  rest-long = ap length rest-is ∙ length-drop k text

  pub count-inside : (limit n : ℕ) → k ≤ length text → n ≡ digits_in limit 0 (take (length text - k) (drop k text)) → k + n ≤ length text
  count-inside limit n h e = omega (arith, rest-long, digits-within limit 0 (take (length text - k) (drop k text)))

-- ---- a letter

module _ (text : List ℕ) (p : ℕ) (to : Option ℕ) (d : List ℕ) where
  pub letter-unknown : {l : Option Letter} → l ≡ None → Written item_text (letter_at p l (drop (suc p) text)) to d (Err p) d
  unfolding letter_at
  letter-unknown e = strays (rw e) refl

  pub letter-written : {l : Option Letter} {b : Letter} {n : ℕ} {end : Option ℕ} {d' : List ℕ} → l ≡ Some b → n ≡ digits_in max_template_count 0 (drop (p + 1) text)
      → Stored ((b.byte ∷ flag_text b.unsigned) ++ take n (drop (p + 1) text)) to d end d'
      → Written item_text (letter_at p l (drop (suc p) text)) to d (Ok (record { next = p + 1 + n; end = end })) d'
  unfolding letter_at
  letter-written {l} {b} {n} {end} {d'} e m s =
      let item : Item = single (record { letter = b.byte; unsigned = b.unsigned; count = take n (drop (suc p) text) }) in
      let place : p + 1 ≡ suc p = omega arith in
      let is : item_text item ≡ (b.byte ∷ flag_text b.unsigned) ++ take n (drop (p + 1) text) = rw place (text-single _) in
      let digits : digits_in max_template_count 0 (drop (suc p) text) ≡ n = sym (rw place at m) in
      writes {a = item} (rw (e, digits, place)) (subst (λ (x : List ℕ). Stored x to d end d') (sym is) s)
