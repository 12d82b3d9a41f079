-- Perl pack templates (document 02, M-105): from bytes to a tree of items, or to the stray byte, after which no
-- template can go on. A text is the list of its bytes, and a place is an index into it.
use Rattle.std.specs.Prelude.{ℕ, zero, suc, ◌+◌, ◌-◌, Bool, true, false, ◌&&◌, ◌||◌, List, [], ◌∷◌, take, drop, eqb, ltb, if◌then◌else◌}
use Rattle.std.specs.declared.option.Option.{Option}
use Rattle.std.specs.declared.option.Option.TheVariants.{Some, None}
use Rattle.layout.specs.declared.Refusal.TheVariants.{BadTemplate}
use Rattle.layout.specs.Refusals.{Result, ok, refused}
use Rattle.perl.specs.declared.tokens.Letter.{Letter}
use Rattle.perl.specs.Tokens.{max_template_count, max_depth, max_repeat, letter_of, number_in, digits_in, repeat_of}

-- ---- the tree (02, M-105: items and groups)

-- an item that is no group: our letter, whether the flag `u` follows it, and the count's digits, none where it is
-- omitted
pub record Single : Type 0 where
  pub letter : ℕ
  pub unsigned : Bool
  pub count : List ℕ

-- a template is a sequence of items; an item is a letter with its count, or a group: a template again, and how often it
-- is repeated
mutual
  pub data Template : Type 0 where
    done : Template
    next : Item → Template → Template

  pub data Item : Type 0 where
    single : Single → Item
    group : Template → ℕ → Item

-- ---- the readers (02, M-105: number 15)

-- what was read and the place after it; or the place of the stray byte, which is the text's length where the text ends
-- inside a group
pub data ReadTo (A : Type 0) : Type 0 where
  read : A → ℕ → ReadTo A
  stray : ℕ → ReadTo A

-- a letter at the place `at`, with the count in front of cs
unfoldable pub letter_at : ℕ → Option Letter → List ℕ → ReadTo Item
unfolding digits_in
letter_at at (Some l) cs =
    let n = digits_in max_template_count 0 cs in
    read (single (record { letter = l.byte; unsigned = l.unsigned; count = take n cs })) (suc at + n)
letter_at at None cs = stray at

-- a group whose `(` stands at the place `at`, followed by cs; its items end at a `)`, which the repeat follows
unfoldable pub group_at : ℕ → List ℕ → ReadTo Template → ReadTo Item
unfolding number_in digits_in
group_at at cs (read t close) =
    let rest = drop (close - at) cs in
    read (group t (repeat_of (number_in max_repeat 0 rest))) (suc close + digits_in max_repeat 0 rest)
group_at at cs (stray p) = stray p

-- The item whose first byte c stands at the place `at`, followed by cs, inside `depth` groups. The items of a group
-- that begins here (byte 40) are given as `inside`.
unfoldable pub item_at : ℕ → ℕ → ℕ → List ℕ → (Unit {0} → ReadTo Template) → ReadTo Item
unfolding letter_of letter_at group_at
item_at depth at c cs inside =
    elim (eqb c 40 && ltb depth max_depth) [ true ↦ group_at at cs (inside tt) | false ↦ letter_at at (letter_of c) cs ]

-- what stands at a place: a space, the `)` of the present group, an item and the place after it, or a stray byte and
-- its place
pub data Piece : Type 0 where
  space : Piece
  close : Piece
  item : Item → ℕ → Piece
  bad : ℕ → Piece

abbrev pub piece_from : ReadTo Item → Piece
piece_from (read i end) = item i end
piece_from (stray p) = bad p

-- what the byte c at the place `at` begins; a `)` (byte 41) may stand where a group is open and has an item (`filled`):
-- no group is empty
unfoldable pub piece_at : ℕ → Bool → ℕ → ℕ → List ℕ → (Unit {0} → ReadTo Template) → Piece
unfolding item_at
piece_at depth filled at c cs inside =
    if eqb c 32 then space
    else if eqb c 41 then (if ltb 0 depth && filled then close else bad at)
    else piece_from (item_at depth at c cs inside)

-- how many bytes after the one at its place a piece takes; and whether it is an item, which the present group then has
abbrev pub piece_extra : ℕ → Piece → ℕ
piece_extra at space = 0
piece_extra at close = 0
piece_extra at (item i end) = end - suc at
piece_extra at (bad p) = 0

abbrev pub is_item : Piece → Bool
is_item space = false
is_item close = false
is_item (item i end) = true
is_item (bad p) = false

abbrev pub and_then : Item → ReadTo Template → ReadTo Template
and_then i (read t end) = read (next i t) end
and_then i (stray p) = stray p

-- the items from the place `at` on: the piece there, and the items that follow it (`rest`)
abbrev pub piece_then : ℕ → Piece → ReadTo Template → ReadTo Template
piece_then at space rest = rest
piece_then at close rest = read done at
piece_then at (item i end) rest = and_then i rest
piece_then at (bad p) rest = stray p

-- The items from the place `at` on, inside `depth` groups, up to the `)` of the present group, where the reading ends,
-- or at depth 0 to the end of the text; after the next n bytes, which belong to the item before.
unfoldable pub sequence : ℕ → Bool → ℕ → ℕ → List ℕ → ReadTo Template
unfolding piece_at
sequence depth filled at n [] = if eqb depth 0 then read done at else stray at
sequence depth filled at (suc n) (c ∷ cs) = sequence depth filled (suc at) n cs
sequence depth filled at zero (c ∷ cs) =
    let s = piece_at depth filled at c cs (λ _. sequence (suc depth) false (suc at) 0 cs) in
    let rest = sequence depth (filled || is_item s) (suc at) (piece_extra at s) cs in
    piece_then at s rest

abbrev pub or_refused : ReadTo Template → Result Template
or_refused (read t end) = ok t
or_refused (stray p) = refused BadTemplate p

-- THE TEMPLATE OF A TEXT, or its refusal
unfoldable pub template_of : List ℕ → Result Template
unfolding sequence
template_of text = or_refused (sequence 0 false 0 0 text)
