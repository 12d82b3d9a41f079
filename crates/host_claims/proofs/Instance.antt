-- The premises can be met, by slots and replies that are bytes: for demand 3 the layouts of `evolution`'s own instance,
-- for M-107 a record of `a2 Su`, for sheets and rescues the table of 02's example, for M-113 two parts over one area.
use Prim.Native.Nat.{ℕ, ◌*◌, ◌%◌}
use native.Mathlib.Omega.{arith}
use mathlib.Core.Path.{◌≡◌, refl}
use mathlib.Core.Bool.{Bool, true, false}
use mathlib.Core.List.{List, [], ◌∷◌, ◌++◌}
use lib.Dec.{T}
use lib.ListN.{length, take, replicate}
use Rattle.layout.specs.declared.Role.TheVariants.{Data}
use Rattle.layout.specs.declared.Shape.TheVariants.{Text, Integers}
use Rattle.layout.specs.declared.Count.TheVariants.{Absent, Star, Times}
use Rattle.layout.specs.Layout.{fields_of, slot_count}
use Rattle.layout.specs.Quoted.{bytes}
use Rattle.record.specs.Bytes.{number_at}
use Rattle.record.specs.Table.{slots_of, value_bytes}
use Rattle.record.specs.Packing.{pack, filled}
use Rattle.record.specs.Reading.{values_from}
use Rattle.runs.specs.Ends.{end_of}
use Rattle.evolution.specs.Claim.{Reading, set_by}
use Rattle.evolution.specs.Pair.{pair}
use Rattle.lossless.specs.Claim.{Layout, lossless, are_bytes as lossless_bytes, Archived}
use Rattle.joining.specs.Claim.{forward}
use Rattle.sheet.specs.Entries.{entry_values as sheet_values}
use Rattle.sheet.specs.Sheet.{entries_of, write_sheet, read_sheet}
use Rattle.sheet.specs.Examples.{ok_table, ok_area, ok_sheet}
use Rattle.sheet.specs.Claims.{Stored, Loaded}
use Rattle.sheet.proofs.Bounds.{are_bytes, all-bytes}
use Rattle.rescue.specs.Rescue.{rescue}
use Rattle.host.specs.Numbers.{numbers_in, numbers_bytes}
use Rattle.host.specs.Host.{slot_size, reply_size, long_reply_size}
use Rattle.host_record.specs.Packing.{curlew_pack}
use Rattle.host_sheet.specs.Rescuing.{rescue_reply_size}
use Rattle.host_claims.specs.Seen.{Lends, filled_with}
use Rattle.host_claims.specs.ReadBack as read_back
use Rattle.host_claims.specs.GivenBack.{HostArchived}
use Rattle.host_claims.specs.Rescues as rescues
use Rattle.host_claims.specs.Joined.{HostPart}
use Rattle.host_claims.proofs.Joined.{host-joined}

-- n nines; and as many slots and a reply of them
abbrev nines : ℕ → List ℕ
nines n = replicate n 9

lent-nines : (n size : ℕ) → T (are_bytes (nines (slot_size * n))) → length (nines (slot_size * n)) % slot_size ≡ 0
    → length (nines size) ≡ size
    → Lends (nines (slot_size * n)) (nines size) size
lent-nines n size below whole sized =
    record { are-slots = record { whole = whole; bytes = all-bytes (nines (slot_size * n)) below }; reply-size = sized }

-- ---- demand 3: the new record, cut inside its last field, read by either layout

arguments : List ℕ
unfolding pair numbers_bytes
arguments = numbers_bytes pair.slots

abbrev calls : read_back.HostLent
calls = record {
  arguments = arguments;
  pack_reply = nines reply_size;
  cut = 5;
  table = nines (slot_size * 2);
  values = nines 4;
  mark = 1;
  read_reply = nines long_reply_size;
}

reading : (layout : Bool) → Reading pair true layout 5 (numbers_in calls.table) calls.values 1
unfolding numbers_in pair pack set_by filled slots_of slot_count value_bytes
reading true = record { within = omega arith; sizes = tt; enough-slots = omega arith; room = omega arith }
reading false = record { within = omega arith; sizes = tt; enough-slots = omega arith; room = omega arith }

demand3 : (layout : Bool) → read_back.HostMeant pair true layout calls
unfolding arguments numbers_in pair
demand3 layout = record {
  arguments = record { whole = refl; bytes = all-bytes arguments tt };
  are = refl;
  pack-reply = refl;
  lends = lent-nines 2 long_reply_size tt refl refl;
  reads = reading layout;
}

-- ---- M-107

form : Layout
unfolding fields_of lossless
form = record {
  text = bytes "a2 Su";
  fields =
      record { role = Data (Text 0); unsigned = false; count = Times 2 }
      ∷ record { role = Data (Integers 2 true); unsigned = true; count = Absent }
      ∷ [];
  has-fields = refl;
  is-lossless = tt;
}

archived : Archived form
unfolding form lossless_bytes end_of slots_of slot_count value_bytes values_from numbers_in
archived = record {
  bytes = bytes "ok" ++ (255 ∷ 254 ∷ []);
  slots = numbers_in (nines (slot_size * 2));
  area = nines 12;
  mark = 1;
  output = nines 5;
  are-bytes = tt;
  is-full = refl;
  slot-for-each = refl;
  area-room = omega arith;
  output-room = omega arith;
  read-sizes = tt;
  pack-sizes = tt;
}

host-archived : HostArchived form
unfolding archived
host-archived = record {
  archived = archived;
  slots = nines (slot_size * 2);
  read_reply = nines long_reply_size;
  pack_reply = nines reply_size;
  lends = lent-nines 2 long_reply_size tt refl refl;
  are = refl;
  pack-reply = refl;
}

-- ---- sheets

ok_slots : List ℕ
unfolding numbers_bytes ok_table
ok_slots = numbers_bytes ok_table

ok-lent : Lends ok_slots (nines reply_size) reply_size
unfolding ok_slots
ok-lent = record { are-slots = record { whole = refl; bytes = all-bytes ok_slots tt }; reply-size = refl }

stored : Stored (numbers_in ok_slots) ok_area (nines 30) (numbers_in (nines (slot_size * 4))) (nines 20) 5
unfolding ok_slots ok_area numbers_in write_sheet slots_of entries_of sheet_values
stored = record { writing = refl; sizes = tt; enough-slots = omega arith; room = omega arith }

loaded : Loaded ok_sheet (numbers_in (nines (slot_size * 4))) (nines 20) 5 (nines 22)
unfolding ok_sheet numbers_in read_sheet
loaded = record { bytes = all-bytes ok_sheet tt; reading = refl; size = omega arith; room = omega arith }

-- ---- rescues: the sheet cut inside its last entry

abbrev damaged : rescues.RescuesLent
damaged = record {
  sheet = take 21 ok_sheet;
  legs = 3;
  slots = nines (slot_size * 4);
  area = nines 20;
  mark = 5;
  reply = nines rescue_reply_size;
  buffer = nines 30;
  write_reply = nines reply_size;
  table = nines (slot_size * 3);
  values = nines 2;
  start = 0;
  last_reply = nines rescue_reply_size;
}

rescued : rescues.RescuesMeant damaged
unfolding ok_sheet numbers_in rescue write_sheet slots_of entries_of sheet_values
rescued = record {
  lends = lent-nines 4 rescue_reply_size tt refl refl;
  write-reply = refl;
  lends_again = lent-nines 3 rescue_reply_size tt refl refl;
  again = record {
    rescuing = refl;
    stored = record { writing = refl; sizes = tt; enough-slots = omega arith; room = omega arith };
  };
}

-- ---- M-113: `a*` and `Su2` over "ok" and two integers

area : List ℕ
area = bytes "ok" ++ (0 ∷ 0 ∷ 0 ∷ 0 ∷ 0 ∷ 0 ∷ 255 ∷ 254 ∷ 0 ∷ 0 ∷ 0 ∷ 0 ∷ 0 ∷ 0 ∷ 0 ∷ 3 ∷ [])

cover : HostPart area
unfolding area numbers_bytes fields_of forward curlew_pack
cover = record {
  text = bytes "a* ";
  slots = numbers_bytes (1 ∷ 0 ∷ 2 ∷ 9 ∷ []);
  output = nines 2;
  reply = nines reply_size;
  fields = record { role = Data (Text 0); unsigned = false; count = Star } ∷ [];
  lends = record {
    are-slots = record { whole = refl; bytes = all-bytes (numbers_bytes (1 ∷ 0 ∷ 2 ∷ 9 ∷ [])) tt };
    reply-size = refl;
  };
  has-fields = refl;
  goes-forward = tt;
  accepted = refl;
}

leg : HostPart area
unfolding area numbers_bytes fields_of forward curlew_pack
leg = record {
  text = bytes "Su2";
  slots = numbers_bytes (3 ∷ 2 ∷ 2 ∷ 9 ∷ []);
  output = nines 4;
  reply = nines reply_size;
  fields = record { role = Data (Integers 2 true); unsigned = true; count = Times 2 } ∷ [];
  lends = record {
    are-slots = record { whole = refl; bytes = all-bytes (numbers_bytes (3 ∷ 2 ∷ 2 ∷ 9 ∷ [])) tt };
    reply-size = refl;
  };
  has-fields = refl;
  goes-forward = tt;
  accepted = refl;
}

-- joined, they pack "ok", ff fe 00 03 into a buffer of seven bytes
joined : curlew_pack (bytes "a* Su2") (cover.slots ++ leg.slots) area (nines 7) (nines reply_size)
    ≡ filled_with (nines 7) (bytes "ok" ++ (255 ∷ 254 ∷ 0 ∷ 3 ∷ []))
unfolding area cover leg numbers_bytes numbers_in number_at curlew_pack
joined = (host-joined area).two cover leg (nines 7) (nines reply_size) refl tt (omega arith)
