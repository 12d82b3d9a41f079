-- What the readers of the code promise: the definitions' readings at a place, and their layout text in a block of as
-- many bytes as a layout may have.
use Rattle.std.specs.declared.option.Option.{Option}
use Rattle.std.specs.declared.option.Option.TheVariants.{Some, None}
use Rattle.std.specs.declared.result.Result as Std
use Rattle.std.specs.declared.result.Result.TheVariants.{Ok, Err}
use Rattle.std.specs.Prelude.{ℕ, suc, ◌+◌, ◌≤◌, ◌≡◌, Bool, false, List, length, drop, get_or, leb, if◌then◌else◌}
use Rattle.layout.specs.Layout.{max_layout}
use Rattle.record.specs.Bytes.{store_at}
use Rattle.perl.specs.declared.items.Span.{Span}
use Rattle.perl.specs.Template.{Template, Item, ReadTo, read, stray, item_at, sequence}
use Rattle.perl.specs.Writing.{repeated, written_out, written_out_item, text_of}

-- the items of a text from the place `at` on, inside `depth` groups
unfoldable pub items_from : ℕ → Bool → List ℕ → ℕ → ReadTo Template
unfolding sequence
items_from depth filled text at = sequence depth filled at 0 (drop at text)

-- the item whose first byte stands at the place p, inside `depth` groups
unfoldable pub item_from : ℕ → List ℕ → ℕ → ReadTo Item
unfolding item_at sequence
item_from depth text p =
    item_at depth p (get_or text p 0) (drop (suc p) text) (λ _. sequence (suc depth) false (suc p) 0 (drop (suc p) text))

-- the layout text of a template, and of an item
unfoldable pub template_text : Template → List ℕ
unfolding text_of written_out
template_text t = text_of (written_out t)

unfoldable pub item_text : Item → List ℕ
unfolding text_of written_out
item_text i = text_of (written_out_item i)

-- where text that would go on to the place n ends in the block: at no place where it runs over
abbrev pub placed : ℕ → Option ℕ
placed n = if leb n max_layout then Some n else None

-- the end of a text as a number, one past the block where it has run over
abbrev pub held : Option ℕ → ℕ
held (Some n) = n
held None = suc max_layout

abbrev pub Inside : Option ℕ → Type 0
Inside (Some n) = n ≤ max_layout
Inside None = Unit {0}

-- The text s was put over the block `old` from the end `to` on, and the next one goes to `end`. Where s does not fit,
-- that is no place, and the block may hold anything.
pub record Stored (s : List ℕ) (to : Option ℕ) (old : List ℕ) (end : Option ℕ) (new : List ℕ) : Type 0 where
  pub place : end ≡ placed (held to + length s)
  pub long : length new ≡ length old
  pub bytes : held to + length s ≤ max_layout → new ≡ store_at old (held to) s

-- whatever text was stored up to `end` is now stored `times` times, up to `all`
abbrev pub Again : Option ℕ → Option ℕ → List ℕ → ℕ → Option ℕ → List ℕ → Type 0
Again to end old times all new = (s d : List ℕ) → Stored s to d end old → Stored (repeated times s) to d all new

-- what a reader says that has put the text of what it read into the block from `to` on, or found a stray byte
unfoldable pub span_from : {A : Type 0} → (A → List ℕ) → Option ℕ → ReadTo A → Std.Result Span ℕ
span_from text to (read a next) = Ok (record { next = next; end = placed (held to + length (text a)) })
span_from text to (stray p) = Err p

-- what a reader says as r, and what it leaves in the block: the text of what it read, where that has room
pub record Written {A : Type 0} (text : A → List ℕ) (o : ReadTo A) (to : Option ℕ) (old : List ℕ)
    (r : Std.Result Span ℕ) (new : List ℕ) : Type 0 where
  pub says : r ≡ span_from text to o
  pub long : length new ≡ length old
  pub bytes : (a : A) (next : ℕ) → o ≡ read a next → held to + length (text a) ≤ max_layout
      → new ≡ store_at old (held to) (text a)
