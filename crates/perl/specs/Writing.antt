-- From a template to our layout text (document 02, M-105): its items written out, and their text.
use Rattle.std.specs.Prelude.{ℕ, zero, suc, Bool, true, false, List, [], ◌∷◌, ◌++◌}
use Rattle.perl.specs.Template.{Single, Template, Item, done, next, single, group}

-- xs n times
unfoldable pub repeated : {A : Type 0} → ℕ → List A → List A
repeated zero xs = []
repeated (suc n) xs = xs ++ repeated n xs

-- the items of a template one after the other, each group as often as its repeat says (02, M-105: the output)
unfoldable mutual
  unfolding repeated

  pub written_out : Template → List Single
  written_out done = []
  written_out (next i t) = written_out_item i ++ written_out t

  pub written_out_item : Item → List Single
  written_out_item (single s) = s ∷ []
  written_out_item (group t n) = repeated n (written_out t)

-- the text of one item, and of items one after the other: the letter, the flag `u` (byte 117), and the count of each
abbrev pub flag_text : Bool → List ℕ
flag_text true = 117 ∷ []
flag_text false = []

abbrev pub single_text : Single → List ℕ
single_text s = s.letter ∷ flag_text s.unsigned ++ s.count

unfoldable pub text_of : List Single → List ℕ
text_of [] = []
text_of (s ∷ ss) = single_text s ++ text_of ss
