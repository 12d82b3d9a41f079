-- The whole call, line by line: each return is one law of the definition.
use Rattle.std.specs.declared.option.Option.TheVariants.{Some}
use Rattle.std.specs.declared.result.Result as Std
use Rattle.std.specs.declared.result.Result.TheVariants.{Ok, Err}
use Prim.Native.Nat.{ℕ, suc, ◌+◌, ◌≤◌, ◌<◌, min}
use native.Mathlib.Nat.{zero-add}
use native.Mathlib.Omega.{arith}
use mathlib.Core.Path.{◌≡◌, ◌∙◌, subst, ap}
use mathlib.Core.Bool.{false, ◌&&◌, and-false}
use mathlib.Core.List.{List, ◌++◌}
use borrow.Author.Tests.{le-leb, lt-leb}
use lib.Dec.{leb}
use lib.ListN.{length, take, drop}
use lib.Seq.{take_at}
use Rattle.layout.specs.declared.Refusal.TheVariants.{BadSize, BadTemplate, NoRoom}
use Rattle.layout.specs.Layout.{max_layout}
use Rattle.record.specs.Packing.{accepted, refusal}
use Rattle.record.proofs.Fields.{split}
use Rattle.perl.specs.declared.items.Span.{Span}
use Rattle.perl.specs.Template.{Template, ReadTo, read, template_of}
use Rattle.perl.specs.inside.Readers.{held, Inside, items_from, template_text, Stored, Written}
use Rattle.perl.proofs.items.Blocks.{held-placed, inside-end}
use Rattle.perl.proofs.items.Letters.{was_read, was-stray}
use Rattle.perl.proofs.readers.Readings.{Ends, items-end}
use Rattle.perl.specs.Conversion.{layout_from, from_perl}

no_room : (n m : ℕ) → min max_layout m < n → (leb n max_layout && leb n m) ≡ false
no_room n m h = split n max_layout (λ k. rw (lt-leb n m (omega arith), and-false)) (λ k. rw (lt-leb n max_layout k))

module _ (template buffer : List ℕ) where
  pub call-size : max_layout < length template → record { answer = refusal BadSize 0; layout = buffer } ≡ from_perl template buffer
  unfolding from_perl layout_from
  call-size h = rw (lt-leb (length template) max_layout h)

  module _ (fits : length template ≤ max_layout) (block : List ℕ) (r : Std.Result Span ℕ) (block' : List ℕ) (w : Written template_text (items_from 0 false template 0) (Some 0) block r block') where
    abbrev o : ReadTo Template
    o = items_from 0 false template 0

    module _ (p : ℕ) (e : r ≡ Err p) where
      pub stray-small : p ≤ max_layout
      stray-small = omega (arith, (subst (Ends 0 0 (length template)) (was-stray o w p e) (items-end 0 template false 0 (omega arith))).1)

      pub call-stray : record { answer = refusal BadTemplate p; layout = buffer } ≡ from_perl template buffer
      unfolding from_perl layout_from template_of items_from
      call-stray = let s = was-stray o w p e in rw (le-leb (length template) max_layout fits, s)

    module _ (span : Span) (e : r ≡ Ok span) where
      found : (t : Template) × (o ≡ read t span.next) × Stored (template_text t) (Some 0) block span.end block'
      found = was_read o w span e

      abbrev text : List ℕ
      text = template_text found.0

      length-is : held span.end ≡ min (suc max_layout) (length text)
      length-is = ap held found.2.place ∙ held-placed (0 + length text) ∙ ap (min (suc max_layout)) (zero-add (length text))

      pub call-room : min max_layout (length buffer) < held span.end → record { answer = refusal NoRoom 0; layout = buffer } ≡ from_perl template buffer
      unfolding from_perl layout_from template_of items_from template_text
      call-room h = let s = found.1 in rw (le-leb (length template) max_layout fits, s, no_room (length text) (length buffer) (omega (arith, length-is)))

      pub size-small : (size : ℕ) → span.end ≡ Some size → size ≤ max_layout
      size-small size q = subst Inside q (inside-end found.2)

      pub call-done : (size : ℕ) {x : List ℕ} → span.end ≡ Some size → size ≤ length buffer → x ≡ take size block' → record { answer = accepted size 0; layout = x ++ drop size buffer } ≡ from_perl template buffer
      unfolding from_perl layout_from template_of items_from template_text
      call-done size {x} q h k =
          let s = found.1 in
          let small : size ≤ max_layout = size-small size q in
          let long : length text ≡ size = omega (arith, length-is, ap held q) in
          let out : x ≡ text = k ∙ ap (take size) (found.2.bytes (omega arith)) ∙ take_at text _ size long in
          rw (le-leb (length template) max_layout fits, s, le-leb (length text) max_layout (omega arith), le-leb (length text) (length buffer) (omega arith), out, long)
