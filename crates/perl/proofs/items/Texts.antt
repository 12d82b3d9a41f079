-- The layout text of what is written out, and its length.
use Prim.Native.Nat.{ℕ, zero, suc, ◌*◌}
use native.Mathlib.Nat.{suc-mul, zero-mul}
use native.Mathlib.Omega.{arith}
use mathlib.Core.Path.{◌≡◌, refl, sym, ap, ◌∙◌}
use mathlib.Core.List.{List, [], ◌∷◌, ◌++◌, append_assoc, append-nil}
use lib.ListN.{length, length-append}
use Rattle.perl.specs.Template.{Single, Template, Item, done, next, single, group}
use Rattle.perl.specs.Writing.{repeated, written_out, written_out_item, single_text, text_of}
use Rattle.perl.specs.inside.Readers.{template_text, item_text}

text-append : (xs ys : List Single) → text_of (xs ++ ys) ≡ text_of xs ++ text_of ys
unfolding text_of
text-append [] ys = refl
text-append (x ∷ xs) ys = rw (text-append xs ys) (sym (append_assoc (single_text x) (text_of xs) (text_of ys)))

text-repeated : (n : ℕ) (xs : List Single) → text_of (repeated n xs) ≡ repeated n (text_of xs)
unfolding text_of repeated
text-repeated zero xs = refl
text-repeated (suc n) xs = text-append xs (repeated n xs) ∙ (rw (text-repeated n xs))

pub length-repeated : (n : ℕ) (xs : List ℕ) → length (repeated n xs) ≡ n * length xs
unfolding repeated
length-repeated zero xs = sym (zero-mul (length xs))
length-repeated (suc n) xs = length-append xs (repeated n xs) ∙ (rw (length-repeated n xs, suc-mul) (omega arith))

-- ---- templates and items

pub text-done : template_text done ≡ []
unfolding template_text written_out text_of
text-done = refl

pub text-next : (i : Item) (t : Template) → template_text (next i t) ≡ item_text i ++ template_text t
unfolding template_text item_text written_out
text-next i t = text-append (written_out_item i) (written_out t)

pub text-single : (s : Single) → item_text (single s) ≡ single_text s
unfolding item_text written_out text_of
text-single s = append-nil (single_text s)

pub text-group : (t : Template) (n : ℕ) → item_text (group t n) ≡ repeated n (template_text t)
unfolding template_text item_text written_out
text-group t n = text-repeated n (written_out t)

pub repeated-last : (n : ℕ) (xs : List ℕ) → repeated (suc n) xs ≡ repeated n xs ++ xs
unfolding repeated
repeated-last zero xs = append-nil xs
repeated-last (suc n) xs = ap (λ (ys : List ℕ). xs ++ ys) (repeated-last n xs) ∙ sym (append_assoc xs (repeated n xs) xs)
