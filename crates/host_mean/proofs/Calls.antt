-- What each way out of a call leaves is what the definition gives.
use Prim.Native.Nat.{ℕ, ◌*◌, ◌<◌}
use native.Mathlib.Omega.{arith}
use mathlib.Core.Path.{◌≡◌, refl, ap, ◌∙◌}
use mathlib.Core.Bool.{Bool, true, false}
use mathlib.Core.List.{List, [], ◌∷◌, ◌++◌}
use borrow.Author.Tests.{lt-leb}
use lib.Dec.{eqb}
use lib.ListN.{length, length-append}
use Rattle.layout.specs.declared.Refusal.TheVariants.{BadSize}
use Rattle.layout.specs.Refusals.{number_of}
use Rattle.record.specs.declared.Answer.{Answer}
use Rattle.record.specs.Bytes.{store_at, number_bytes}
use Rattle.record.specs.Table.{integer_size, max_slots, slot_width}
use Rattle.record.specs.Geometry.{table_fits}
use Rattle.record.specs.Packing.{refusal}
use Rattle.record.proofs.NumberLaws.{length-number_bytes}
use Rattle.record.proofs.Stores.{store-next, store-whole}
use Rattle.std.specs.Prelude.{Option, None, Some, Float}
use Rattle.std.specs.Option.{is_some}
use mir.Val.{bool_byte}
use Rattle.mean.specs.declared.marks.Marks.{Marks}
use Rattle.mean.specs.Mean.{legs, marks_effect, mean}
use Rattle.host.specs.Numbers.{number_size, numbers_in, numbers_bytes}
use Rattle.host.proofs.numbers.NumberLaws.{length-bytes_of}
use Rattle.host.specs.inside.Small.{slot_bytes_fit}
use Rattle.host.proofs.Guards.{Fit, guarded-unwritten, guarded-refused, guarded-served}
use Rattle.host_mean.specs.Calls.{follows, mean_reply_size, mean_reply, mean_call, curlew_mean}

-- whether a mean follows, as the code finds it
pub follows-is : (m : Option Float) {b : Bool} {n : ℕ} → n ≡ bool_byte b → b ≡ is_some m → n ≡ follows m
follows-is None e d = rw (e, d)
follows-is (Some x) e d = rw (e, d)

-- the numbers and then the pattern fill the reply
pub reply-filled : (d : List ℕ) (a b c f p : ℕ) → length d ≡ mean_reply_size
    → store_at (store_at d 0 (numbers_bytes (a ∷ b ∷ c ∷ f ∷ []))) (number_size * 4) (number_bytes integer_size p) ≡ numbers_bytes (a ∷ b ∷ c ∷ f ∷ []) ++ number_bytes integer_size p
reply-filled d a b c f p e =
    let s : List ℕ = numbers_bytes (a ∷ b ∷ c ∷ f ∷ []) in
    let t : List ℕ = number_bytes integer_size p in
    let ls : length s ≡ number_size * 4 = length-bytes_of (a ∷ b ∷ c ∷ f ∷ []) in
    let lt : length t ≡ integer_size = length-number_bytes integer_size p in
    let whole : length (s ++ t) ≡ length d = length-append s t ∙ omega arith in
    store-next {to = number_size * 4} d 0 s t refl (omega arith) refl refl (omega arith) ∙ store-whole d (s ++ t) whole

-- more slots than a call may be lent are refused with 1
mean-many : (ns area : List ℕ) → slot_width * max_slots < length ns → record { answer = refusal BadSize 0; mean = None } ≡ mean ns area
unfolding mean legs marks_effect
mean-many ns area many =
    let over : table_fits (length ns) (length area) ≡ false = rw (lt-leb (length ns) (slot_width * max_slots) many) in
    rw over

module _ (slots area : List ℕ) where
  -- the call on numbers, and the reply
  pub mean-replied : {ns reply' : List ℕ} {m : Marks} {r : ℕ} → ns ≡ numbers_in slots → m ≡ mean ns area → (r ≡ m.answer.number) × (reply' ≡ mean_reply m)
      → record { returned = r; reply = reply' } ≡ mean_call (mean (numbers_in slots) area)
  unfolding mean_call
  mean-replied e p q = rw (← e, ← p, q.0, q.1)

  module _ (reply : List ℕ) where
    pub mean-unwritten : eqb (length reply) mean_reply_size ≡ false → record { returned = number_of BadSize; reply = reply } ≡ curlew_mean slots area reply
    unfolding curlew_mean
    mean-unwritten h = guarded-unwritten mean_reply_size reply slots _ _ _ h

    module _ (sized : eqb (length reply) mean_reply_size ≡ true) where
      pub mean-refused : {a : Answer} {r : ℕ} {reply' : List ℕ} → slot_bytes_fit (length slots) ≡ false → a ≡ refusal BadSize 0
          → (r ≡ a.number) × (reply' ≡ mean_reply (record { answer = a; mean = None })) → record { returned = r; reply = reply' } ≡ curlew_mean slots area reply
      unfolding curlew_mean mean_call
      mean-refused {a} {r} {reply'} bad e q =
          let here : record { returned = r; reply = reply' } ≡ mean_call (record { answer = refusal BadSize 0; mean = None }) = rw (q.0, q.1, e) in
          here ∙ guarded-refused mean_reply_size reply slots _ _ _ sized bad (λ many. ap mean_call (mean-many (numbers_in slots) area many))

      pub mean-served : Fit (length slots) → mean_call (mean (numbers_in slots) area) ≡ curlew_mean slots area reply
      unfolding curlew_mean
      mean-served f = guarded-served mean_reply_size reply slots _ _ _ sized f
