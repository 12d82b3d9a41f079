-- What each way out of a call leaves is what the definition gives.
use Prim.Native.Nat.{ℕ, ◌*◌, ◌<◌}
use mathlib.Core.Path.{◌≡◌, ap, ◌∙◌}
use mathlib.Core.Bool.{true, false}
use mathlib.Core.List.{List}
use lib.Dec.{eqb}
use lib.ListN.{length}
use Rattle.layout.specs.declared.Refusal.TheVariants.{BadSize}
use Rattle.layout.specs.Refusals.{number_of}
use Rattle.record.specs.declared.Answer.{Answer}
use Rattle.record.specs.Table.{max_slots, slot_width}
use Rattle.record.specs.Packing.{Packed, refusal, packs, pack}
use Rattle.record.proofs.Sizes.{too_many}
use Rattle.host.specs.Numbers.{numbers_in}
use Rattle.host.specs.Host.{reply_size, reply_of, pack_call}
use Rattle.host.specs.inside.Small.{slot_bytes_fit}
use Rattle.host.proofs.Guards.{Fit, guarded-unwritten, guarded-refused, guarded-served}
use Rattle.host.proofs.Calls as host
use Rattle.host_record.specs.Packing.{curlew_pack}

-- more slots than a call may be lent are refused with 1
pack-many : (layout ns out area : List ℕ) → slot_width * max_slots < length ns → record { answer = refusal BadSize 0; output = out } ≡ pack layout ns area out
unfolding pack packs
pack-many layout ns out area many = rw (too_many (length layout) (length ns) (length out) (length area) many)

module _ (layout slots area out : List ℕ) where
  -- the call on the numbers that were decoded
  pub packed : {ns : List ℕ} {p : Packed} → ns ≡ numbers_in slots → p ≡ pack layout ns area out → p ≡ pack layout (numbers_in slots) area out
  packed e p = p ∙ ap (λ (n : List ℕ). pack layout n area out) e

  module _ (reply : List ℕ) where
    pub pack-unwritten : eqb (length reply) reply_size ≡ false → record { returned = number_of BadSize; output = out; reply = reply } ≡ curlew_pack layout slots area out reply
    unfolding curlew_pack
    pack-unwritten h = guarded-unwritten reply_size reply slots _ _ _ h

    module _ (sized : eqb (length reply) reply_size ≡ true) where
      pub pack-refused : {a : Answer} {r : ℕ} {reply' : List ℕ} → slot_bytes_fit (length slots) ≡ false → a ≡ refusal BadSize 0 → (r ≡ a.number) × (reply' ≡ reply_of a)
          → record { returned = r; output = out; reply = reply' } ≡ curlew_pack layout slots area out reply
      unfolding curlew_pack pack_call
      pack-refused {a} {r} {reply'} bad e q =
          let here : record { returned = r; output = out; reply = reply' } ≡ pack_call (record { answer = refusal BadSize 0; output = out }) = rw (q.0, q.1, e) in
          here ∙ guarded-refused reply_size reply slots _ _ _ sized bad (λ many. ap pack_call (pack-many layout (numbers_in slots) out area many))

      pub pack-served : {a : Answer} {out' reply' : List ℕ} {r : ℕ} → Fit (length slots) → record { answer = a; output = out' } ≡ pack layout (numbers_in slots) area out
          → (r ≡ a.number) × (reply' ≡ reply_of a) → record { returned = r; output = out'; reply = reply' } ≡ curlew_pack layout slots area out reply
      unfolding curlew_pack
      pack-served f p q = host.pack-replied q p ∙ guarded-served reply_size reply slots _ _ _ sized f
