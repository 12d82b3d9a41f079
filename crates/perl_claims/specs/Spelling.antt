-- What a Perl template is (02, M-105), said without any reader: the ways in which a tree of items and groups may be
-- written.
use Rattle.std.specs.Prelude.{ℕ, suc, ◌≤◌, ◌<◌, ◌≡◌, Bool, true, List, [], ◌∷◌, ◌++◌}
use Rattle.layout.specs.Layout.{is_decimal, decimal}
use Rattle.perl.specs.Tokens.{max_template_count, max_depth, max_repeat, becomes, letter_of, repeat_of}
use Rattle.perl.specs.Template.{Template, Item, done, next, single, group}

-- all of these bytes are decimal digits
abbrev pub Digits : List ℕ → Type 0
Digits [] = Unit {0}
Digits (d ∷ ds) = (is_decimal d ≡ true) × Digits ds

-- how a count or a repeat may be written: not at all, or in digits, the first of them no 0 (byte 48), that make a
-- number from 1 to the limit
pub data Number (limit : ℕ) : List ℕ → Type 0 where
  omitted : Number limit []
  given : {d : ℕ} {ds : List ℕ} → Digits (d ∷ ds) → (d ≡ 48 → ⊥) → 1 ≤ decimal 0 (d ∷ ds) → decimal 0 (d ∷ ds) ≤ limit
      → Number limit (d ∷ ds)

-- THE SPELLINGS: inside `depth` groups the items t may be written as this text.
pub data Spells : ℕ → Template → List ℕ → Type 0 where
  -- no items: no bytes
  nothing : {depth : ℕ} → Spells depth done []
  -- a space (byte 32) more, before an item or after the last
  spaced : {depth : ℕ} {t : Template} {text : List ℕ} → Spells depth t text → Spells depth t (32 ∷ text)
  -- a letter c of the table, which is our letter b with or without the flag; its count; and the other items
  lettered : {depth c b : ℕ} {u : Bool} {count : List ℕ} {t : Template} {rest : List ℕ} → letter_of c ≡ becomes b u
      → Number max_template_count count → Spells depth t rest
      → Spells depth (next (single (record { letter = b; unsigned = u; count = count })) t) (c ∷ (count ++ rest))
  -- a group, not the ninth around its items: `(` (byte 40), an item at least, `)` (byte 41); its repeat; and the other
  -- items
  bracketed : {depth : ℕ} {i : Item} {t : Template} {inside times : List ℕ} {u : Template} {rest : List ℕ}
      → depth < max_depth → Spells (suc depth) (next i t) inside → Number max_repeat times → Spells depth u rest
      → Spells depth (next (group (next i t) (repeat_of (decimal 0 times))) u) (40 ∷ (inside ++ (41 ∷ (times ++ rest))))
