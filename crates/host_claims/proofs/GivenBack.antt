-- The reading leaves slots that agree with those of the reading on numbers, and these are what the packing is lent.
use Prim.Native.Nat.{ℕ}
use mathlib.Core.Path.{◌≡◌, sym, ap, ap₂, ◌∙◌}
use mathlib.Core.List.{List, map}
use Rattle.record.specs.declared.Answer.{Answer}
use Rattle.record.specs.Table.{slots_of, shown}
use Rattle.record.specs.Packing.{pack}
use Rattle.record.specs.Reading.{ReadAll, read_all}
use Rattle.lossless.specs.Claim.{Layout, Archived, LosesNothing, reading_of as numbers_read, packing_of as numbers_packed, shown_by as numbers_shown}
use Rattle.lossless.proofs.LosesNothing.{loses-nothing}
use Rattle.host.specs.Host.{ReadCall, pack_call, read_call}
use Rattle.host_record.specs.Reading.{steps_call}
use Rattle.host_claims.specs.Seen.{filled_with}
use Rattle.host_claims.specs.Agreeing.{Agrees}
use Rattle.host_claims.specs.GivenBack.{HostArchived, host_reading_of, host_packing_of, host_shown_by, HostLossless}
use Rattle.host_claims.proofs.Laws.{pack-served, read-served}
use Rattle.host_claims.proofs.Agreeing.{read-agrees}

module _ (l : Layout) where
  loses : LosesNothing l
  loses = loses-nothing l

  module _ (r : HostArchived l) where
    -- the call on numbers
    numbers_all : List ℕ → ReadAll
    numbers_all ns = read_all l.text r.archived.bytes ns r.archived.area r.archived.mark

    -- the reading is that of the numbers in the slots
    as_read : host_reading_of l r ≡ steps_call r.slots (numbers_all r.archived.slots)
    unfolding numbers_all
    as_read =
        read-served r.slots r.read_reply l.text r.archived.bytes r.archived.area r.archived.mark
        r.lends
        ∙ ap (λ (ns : List ℕ). steps_call r.slots (numbers_all ns)) r.are

    agrees : Agrees r.slots (host_reading_of l r).slots (numbers_read l r.archived).slots
    agrees =
        let a : Archived l = r.archived in
        rw r.are at (read-agrees l.text a.bytes r.slots a.area a.mark r.read_reply r.lends)

    area_same : (host_reading_of l r).area ≡ (numbers_read l r.archived).area
    unfolding numbers_all steps_call read_call
    area_same = ap (λ (c : ReadCall). c.area) as_read

    accepted : (host_reading_of l r).returned ≡ 0
    unfolding numbers_all steps_call read_call
    accepted =
        ap (λ (c : ReadCall). c.returned) as_read ∙ ap (λ (a : Answer). a.number) (loses.sets-all r.archived)

    as-packed : host_packing_of l r ≡ pack_call (numbers_packed l r.archived)
    as-packed =
        pack-served (host_reading_of l r).slots r.pack_reply l.text (host_reading_of l r).area r.archived.output
        (record { are-slots = agrees.slots; reply-size = r.pack-reply })
        ∙ ap₂ (λ (ns area : List ℕ). pack_call (pack l.text ns area r.archived.output)) agrees.same area_same

    gives_back : host_packing_of l r ≡ filled_with r.archived.output r.archived.bytes
    unfolding pack_call
    gives_back = as-packed ∙ ap pack_call (loses.gives_back r.archived)

    shown-same : host_shown_by l r ≡ numbers_shown l r.archived
    shown-same = ap₂ (λ (area ns : List ℕ). map (shown area) (slots_of ns)) area_same agrees.same

pub host-lossless : HostLossless
host-lossless l = record {
  accepted = accepted l;
  gives_back = gives_back l;
  tells-apart =
      λ r s same. (loses l).tells-apart r.archived s.archived (sym (shown-same l r) ∙ same ∙ shown-same l s);
}
