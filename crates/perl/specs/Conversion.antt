-- From a template to our layout (document 02, M-105): THE EFFECT OF A CALL is `from_perl`, at the end.
use Rattle.std.specs.Prelude.{ℕ, ◌&&◌, List, ◌++◌, length, drop, leb}
use Rattle.layout.specs.declared.Refusal.TheVariants.{BadSize, NoRoom}
use Rattle.layout.specs.Refusals.{Result, ok, refused, ◌>>=◌, demand}
use Rattle.layout.specs.Layout.{max_layout}
use Rattle.record.specs.declared.Answer.{Answer}
use Rattle.record.specs.Packing.{accepted, refusal}
use Rattle.perl.specs.Template.{template_of}
use Rattle.perl.specs.Writing.{written_out, text_of}

-- the layout, or the first refusal: 1, 15, 11 (02, M-105: refusals)
unfoldable pub layout_from : List ℕ → List ℕ → Result (List ℕ)
unfolding template_of written_out text_of
layout_from template buffer = do
  _ ← demand (leb (length template) max_layout) BadSize 0
  t ← template_of template
  let text = text_of (written_out t)
  _ ← demand (leb (length text) max_layout && leb (length text) (length buffer)) NoRoom 0
  ok text

-- all that a call leaves: its answer and the buffer
pub record Converted : Type 0 where
  pub answer : Answer
  pub layout : List ℕ

-- the buffer keeps what stands after the layout, and after a refusal all that it held
abbrev pub convert_effect : List ℕ → Result (List ℕ) → Converted
convert_effect buffer (ok text) =
    record { answer = accepted (length text) 0; layout = text ++ drop (length text) buffer }
convert_effect buffer (refused why place) = record { answer = refusal why place; layout = buffer }

unfoldable pub from_perl : List ℕ → List ℕ → Converted
unfolding layout_from
from_perl template buffer = convert_effect buffer (layout_from template buffer)
