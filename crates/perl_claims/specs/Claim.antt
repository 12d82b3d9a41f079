-- What holds of every call (02, M-105), beyond its effect: each layout taken over is one that our layout reader
-- accepts, with the fields that the written-out items are; a blank template gives the empty layout; a group is its
-- items as often as its repeat says; which texts are templates; the place of number 15; and every answer once more by
-- the spellings of Spelling alone, so that no reader need be believed. Proved in proofs/Sound.antt (`claim`, `blank`,
-- `groups`), proofs/Spelling.antt (`spellings`, `one-tree`) and proofs/Places.antt (`places`, `by-spellings`).
use Rattle.std.specs.Prelude.{ℕ, suc, ◌≤◌, ◌<◌, ◌≡◌, ◌↔◌, ◌⊎◌, Bool, List, [], ◌∷◌, ◌++◌, map, length, take, replicate, eqb, if◌then◌else◌}
use Rattle.layout.specs.declared.Count.{Count}
use Rattle.layout.specs.declared.Count.TheVariants.{Absent, Times}
use Rattle.layout.specs.declared.Field.{Field}
use Rattle.layout.specs.declared.Refusal.TheVariants.{BadSize, BadTemplate, NoRoom}
use Rattle.layout.specs.Refusals.{ok, refused}
use Rattle.layout.specs.Layout.{max_layout, type_of, decimal, fields_of, slot_count}
use Rattle.layout.specs.Codes.{known}
use Rattle.perl.specs.Template.{Single, Template, done, group, template_of}
use Rattle.perl.specs.Writing.{repeated, written_out, written_out_item, text_of}
use Rattle.perl.specs.Conversion.{Converted, convert_effect, from_perl}
use Rattle.perl_claims.specs.Spelling.{Spells}

-- the field of one written-out item: its letter's type, its flag, and its count, omitted where it was
unfoldable pub count_for : List ℕ → Count
unfolding decimal
count_for [] = Absent
count_for (c ∷ cs) = Times (decimal 0 (c ∷ cs))

unfoldable pub field_for : Single → Field
unfolding type_of count_for
field_for s = record { role = known (type_of s.letter); unsigned = s.unsigned; count = count_for s.count }

-- how many items there are other than x (byte 120)
unfoldable pub valued : List Single → ℕ
valued [] = 0
valued (s ∷ ss) = if eqb s.letter 120 then valued ss else suc (valued ss)

-- the result of a call: as many of the buffer's bytes as the answer says
abbrev pub result : Converted → List ℕ
result c = take c.answer.first c.layout

-- A CALL THAT IS ACCEPTED: the template is a spelling of some tree; the result is that tree's written-out text, no
-- longer than a layout may be; and for packing and for reading alike its fields are those of the written-out items, of
-- which all but x take a slot
pub record TakenOver (template buffer : List ℕ) : Type 0 where
  pub tree : Template
  pub spelled : Spells 0 tree template
  pub text : result (from_perl template buffer) ≡ text_of (written_out tree)
  pub short : length (result (from_perl template buffer)) ≤ max_layout
  pub fields : (packing : Bool)
      → fields_of packing (result (from_perl template buffer)) ≡ ok (map field_for (written_out tree))
  pub slots : slot_count (map field_for (written_out tree)) ≡ valued (written_out tree)

unfoldable pub Claim : Type 0
Claim = (template buffer : List ℕ) → (from_perl template buffer).answer.number ≡ 0 → TakenOver template buffer

-- n spaces (byte 32), and none as well, are the template without items, for which nothing is written
unfoldable pub Blank : Type 0
Blank = (n : ℕ) → (template_of (replicate n 32) ≡ ok done) × (text_of (written_out done) ≡ [])

-- a group that is repeated n times is written out as its items n times
unfoldable pub Groups : Type 0
Groups = (t : Template) (n : ℕ) → text_of (written_out_item (group t n)) ≡ repeated n (text_of (written_out t))

-- ---- which texts are templates

-- a text is read to a tree exactly where it is one of the tree's spellings
unfoldable pub Spellings : Type 0
Spellings = (text : List ℕ) (t : Template) → (template_of text ≡ ok t) ↔ Spells 0 t text

-- no text is a spelling of two trees
unfoldable pub OneTree : Type 0
OneTree = (text : List ℕ) (t u : Template) → Spells 0 t text → Spells 0 u text → t ≡ u

-- ---- the place of number 15

-- some template begins with these bytes
abbrev pub Begins : List ℕ → Type 0
Begins start = (more : List ℕ) × (t : Template) × Spells 0 t (start ++ more)

-- The place of the first bad byte, by what is a template alone, of any length and wherever a reader stops: some
-- template begins with the bytes before the place, and none with those and the one there. Where the place is the
-- length, all bytes begin a template and are none.
pub record FirstBad (text : List ℕ) (place : ℕ) : Type 0 where
  pub within : place ≤ length text
  pub good : Begins (take place text)
  pub bad : place < length text → Begins (take (suc place) text) → ⊥
  pub ended : place ≡ length text → (t : Template) → Spells 0 t text → ⊥

-- a text is refused with a place exactly where its first bad byte stands there
unfoldable pub Places : Type 0
Places = (text : List ℕ) (place : ℕ) → (template_of text ≡ refused BadTemplate place) ↔ FirstBad text place

-- ---- EVERY CALL, by the spellings alone

-- the layout text that is due for a tree
abbrev pub due_for : Template → List ℕ
due_for t = text_of (written_out t)

-- A template is too long; or it spells a tree whose text has room; or one whose text has none; or it has a first bad
-- byte. One of the four is always so.
pub record BySpellings : Type 0 where
  pub long : (template buffer : List ℕ) → max_layout < length template
      → from_perl template buffer ≡ convert_effect buffer (refused BadSize 0)
  pub served : (template buffer : List ℕ) (t : Template) → length template ≤ max_layout → Spells 0 t template
      → length (due_for t) ≤ max_layout → length (due_for t) ≤ length buffer
      → from_perl template buffer ≡ convert_effect buffer (ok (due_for t))
  pub crowded : (template buffer : List ℕ) (t : Template) → length template ≤ max_layout → Spells 0 t template
      → (max_layout < length (due_for t)) ⊎ (length buffer < length (due_for t))
      → from_perl template buffer ≡ convert_effect buffer (refused NoRoom 0)
  pub stray : (template buffer : List ℕ) (place : ℕ) → length template ≤ max_layout → FirstBad template place
      → from_perl template buffer ≡ convert_effect buffer (refused BadTemplate place)
  pub always : (text : List ℕ) → ((t : Template) × Spells 0 t text) ⊎ ((place : ℕ) × FirstBad text place)
