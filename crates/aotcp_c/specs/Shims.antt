-- What the calls of a shim from a C program do (own).
use Rattle.std.specs.Prelude.{◌≡◌, ◌≢◌, ◌≤◌, ◌<◌, ◌+◌, ◌^◌, ◌⊎◌, ◌&&◌, ℕ, ℤ, Bool, true, false, nat_le, nat_lt, List, [], length, take, slice_get}
use Rattle.std.specs.Prelude.{Option, Some, None, is_some, Result, Ok, Err, if◌then◌else◌}
use Rattle.std.specs.Option.{unwrap_or}
use Rattle.book_base.specs.declared.address.Pair.{Pair}
use Rattle.book_segments.specs.Segments.{Reading, Read, Bad as Unread, reading, pair_reached}
use Rattle.book_keys.specs.Nodes.{tables_of}
use Rattle.book_keys.specs.Rows.{Table}
use Rattle.book_shim.specs.Quoting.{is_ignored, notice}
use Rattle.book_shim.specs.declared.refusal.Unsent.TheVariants as unsent
use Rattle.book_shim.specs.declared.refusal.Untaken.TheVariants as untaken
use Rattle.shim_pairs.specs.declared.answer.Passed.{Passed}
use Rattle.shim_pairs.specs.declared.answer.PairUnsent.{PairUnsent}
use Rattle.shim_pairs.specs.declared.answer.PairUnsent.TheVariants as out
use Rattle.shim_pairs.specs.declared.answer.PairUntaken.{PairUntaken}
use Rattle.shim_pairs.specs.declared.answer.PairUntaken.TheVariants as in_
use Rattle.shim_pairs.specs.declared.saved.Saved.{Saved}
use Rattle.shim_pairs.specs.declared.saved.RestoreRefusal.{RestoreRefusal}
use Rattle.shim_pairs.specs.declared.saved.RestoreRefusal.TheVariants as refusal
use Rattle.shim_pairs.specs.declared.counters.Counters.{Counters}
use Rattle.shim_pairs.specs.declared.counters.FaultCounters.{FaultCounters}
use Rattle.shim_pairs.specs.declared.counters.VerdictCounters.{VerdictCounters}
use Rattle.shim_pairs.specs.Counting.{arriving_counted, ignored_counted, leaving_counted, no_counters}
use Rattle.shim_pairs.specs.Holdings.{IsRefused, ShimState, carried, restored, rows_for, saved_at}
use Rattle.shim_pairs.specs.Passing.{Enters, IsUnsent, IsUntaken, Leaves, Stays, pair_left}
use Rattle.aotcp_c.specs.declared.shapes.CFault.{CFault}
use Rattle.aotcp_c.specs.declared.shapes.CPair.{CPair}
use Rattle.aotcp_c.specs.declared.shim_counters.CFaultCounters.{CFaultCounters}
use Rattle.aotcp_c.specs.declared.shim_counters.CShimCounters.{CShimCounters}
use Rattle.aotcp_c.specs.declared.shim_counters.CVerdictCounters.{CVerdictCounters}
use Rattle.aotcp_c.specs.declared.shim_shapes.CSaved.{CSaved}
use Rattle.aotcp_c.specs.declared.shim_shapes.CShimTold.{CShimTold}
use Rattle.aotcp_c.specs.declared.shim_handle.ShimHandle.{ShimHandle}
use Rattle.aotcp_c.specs.Codes.{bad_family, bad_keys, bad_most, bad_row, holds_one, in_use}
use Rattle.aotcp_c.specs.Codes.{no_connection, no_memory, no_node, no_stack, nothing, ok, small_room}
use Rattle.aotcp_c.specs.Held.{content}
use Rattle.aotcp_c.specs.KeyFiles.{ReadsKeys}
use Rattle.aotcp_c.specs.Numbers.{datagram_number, verdict_number}
use Rattle.aotcp_c.specs.Shapes.{no_pair, pair_of, told_pair}

-- the shim that a handle holds, or none (own)
abbrev pub shim_in : ShimHandle → Option ShimState
shim_in handle = content handle.place.value

-- what holds of the shim that a handle held and of the one that it holds after; where it held none
-- it holds none, and the code says so (own)
abbrev pub OnShim : (before after : Option ShimState) → ℤ → (ShimState → ShimState → Type 0)
    → Type 0
OnShim (Some p) (Some q) code Does = Does p q
OnShim None None code Does = code ≡ no_stack
OnShim _ _ code Does = ⊥

-- the pair of a datagram of the own kernel, or none (own)
abbrev pub left_pair : Reading → CPair
left_pair (Unread fault) = no_pair
left_pair (Read d) = told_pair (pair_left d)

-- the pair of a datagram from the network, or none (own)
abbrev pub reached_pair : Reading → CPair
reached_pair (Unread fault) = no_pair
reached_pair (Read d) = told_pair (pair_reached d)

-- why a datagram of the own kernel doesn't go on, as a number (own)
abbrev pub unsent_cause : PairUnsent → ℕ
unsent_cause (out.Unsent (unsent.Bad fault)) = 1
unsent_cause out.NoNode = 2
unsent_cause (out.Unsent unsent.Signed) = 6
unsent_cause (out.Unsent unsent.NoContext) = 7
unsent_cause (out.Unsent unsent.Range) = 8
unsent_cause (out.Unsent unsent.NoKey) = 9
unsent_cause (out.Unsent unsent.NoRoom) = 10
unsent_cause (out.Unsent unsent.TooLong) = 11
unsent_cause (out.Unsent unsent.Foreign) = 12
unsent_cause (out.Unsent unsent.Unkeyed) = 13

-- why bytes of the own kernel are no datagram, as a number (own)
abbrev pub unsent_reason : PairUnsent → ℕ
unsent_reason (out.Unsent (unsent.Bad fault)) = datagram_number fault
unsent_reason _ = 0

-- why a datagram from the network doesn't go on, as a number (own)
abbrev pub taken_cause : PairUntaken → ℕ
taken_cause (in_.Untaken (untaken.Bad fault)) = 1
taken_cause in_.NoNode = 2
taken_cause (in_.Untaken untaken.Checksum) = 4
taken_cause (in_.Untaken (untaken.Refused verdict)) = 5
taken_cause (in_.Untaken untaken.Foreign) = 12
taken_cause (in_.Untaken untaken.Unkeyed) = 13

-- why bytes from the network are no datagram, or the check refuses their segment, as a number (own)
abbrev pub taken_reason : PairUntaken → ℕ
taken_reason (in_.Untaken (untaken.Bad fault)) = datagram_number fault
taken_reason (in_.Untaken (untaken.Refused verdict)) = verdict_number verdict
taken_reason _ = 0

-- what is told of a datagram that goes on (own)
abbrev pub passed_told : CPair → Passed → CShimTold
passed_told pair p =
    record { pair = pair; length = p.length; cause = 0; reason = 0; changed = p.changed }

-- what is told of a datagram that doesn't (own)
abbrev pub stopped_told : CPair → (cause reason : ℕ) → CShimTold
stopped_told pair cause reason =
    record { pair = pair; length = 0; cause = cause; reason = reason; changed = false }

-- what is told of a datagram of the own kernel (own)
abbrev pub left_told : CPair → Result Passed PairUnsent → CShimTold
left_told pair (Ok p) = passed_told pair p
left_told pair (Err why) = stopped_told pair (unsent_cause why) (unsent_reason why)

-- what is told of a datagram from the network (own)
abbrev pub reached_told : CPair → Result Passed PairUntaken → CShimTold
reached_told pair (Ok p) = passed_told pair p
reached_told pair (Err why) = stopped_told pair (taken_cause why) (taken_reason why)

-- a datagram of the own kernel goes on, or nothing is changed but a counter (own)
abbrev pub LeavesOr : (now : ℕ) → (before after : ShimState) → (bytes old new : List ℕ)
    → Result Passed PairUnsent → Type 0
LeavesOr now h k bytes old new (Ok p) = Leaves now h.held k.held bytes old new p
LeavesOr now h k bytes old new (Err why) =
    IsUnsent h.held now bytes why × (k.held ≡ h.held) × (new ≡ old)

-- a datagram from the network goes on, or nothing is changed but a counter and keys that were
-- derived (own)
abbrev pub EntersOr : (now mtu : ℕ) → (before after : ShimState) → (bytes old new : List ℕ)
    → Result Passed PairUntaken → Type 0
EntersOr now mtu h k bytes old new (Ok p) = Enters now mtu h.held k.held bytes old new p
EntersOr now mtu h k bytes old new (Err why) =
    IsUntaken h.held now mtu bytes why × Stays h.held k.held × (new ≡ old)

-- a datagram of so many bytes stands in front of a buffer that has 20 bytes more (own)
abbrev pub has_room : (count : ℕ) → (buffer : List ℕ) → Bool
has_room count buffer = nat_le (count + 20) (length buffer)

-- how many bytes stand in front of the buffer then: those of what goes on, or as many as before (own)
abbrev pub length_after : {E : Type 0} → (before : ℕ) → Result Passed E → ℕ
length_after before (Ok p) = p.length
length_after before (Err why) = before

-- nothing is changed, since the buffer is too small (own)
pub record IsSmall (h k : ShimState) (count after : ℕ) (old new : List ℕ) (code : ℤ) : Type 0 where
  pub code_is : code ≡ small_room
  pub shim_is : k ≡ h
  pub count_is : after ≡ count
  pub buffer_is : new ≡ old

-- a datagram of the own kernel was answered so (own)
pub record LeftSo (now : ℕ) (h k : ShimState) (count after : ℕ) (old new : List ℕ)
    (told : CShimTold) : Type 0 where
  pub answer : Result Passed PairUnsent
  pub told_is : told ≡ left_told (left_pair (reading (take count old))) answer
  pub count_is : after ≡ length_after count answer
  pub counted : k.counters ≡ leaving_counted answer h.counters
  pub does : LeavesOr now h k (take count old) old new answer

-- a datagram from the network was answered so (own)
pub record ReachedSo (now mtu : ℕ) (h k : ShimState) (count after : ℕ) (old new : List ℕ)
    (told : CShimTold) : Type 0 where
  pub answer : Result Passed PairUntaken
  pub told_is : told ≡ reached_told (reached_pair (reading (take count old))) answer
  pub count_is : after ≡ length_after count answer
  pub counted : k.counters ≡ arriving_counted answer h.counters
  pub does : EntersOr now mtu h k (take count old) old new answer

-- a datagram of the own kernel is handed in, where there is room (own)
pub record HandsOut (now : ℕ) (h k : ShimState) (count after : ℕ) (old new : List ℕ)
    (told : CShimTold) (code : ℤ) : Type 0 where
  pub small : has_room count old ≡ false → IsSmall h k count after old new code
  pub done : has_room count old ≡ true → code ≡ ok
  pub told_is : has_room count old ≡ true → LeftSo now h k count after old new told

-- a datagram from the network is handed in, where there is room (own)
pub record HandsIn (now mtu : ℕ) (h k : ShimState) (count after : ℕ) (old new : List ℕ)
    (told : CShimTold) (code : ℤ) : Type 0 where
  pub small : has_room count old ≡ false → IsSmall h k count after old new code
  pub done : has_room count old ≡ true → code ≡ ok
  pub told_is : has_room count old ≡ true → ReachedSo now mtu h k count after old new told

-- it is told whether a datagram that came as ICMP is kept from the own kernel (own)
pub record Ignores (h k : ShimState) (bytes : List ℕ) (ignored : Bool) (code : ℤ) : Type 0 where
  pub code_is : code ≡ ok
  pub ignored_is : ignored ≡ is_ignored (rows_for h.held) (notice bytes)
  pub held_is : k.held ≡ h.held
  pub counted : k.counters ≡ ignored_counted ignored h.counters

-- what is saved of a connection, as a C program sees it (own)
abbrev pub saved_told : Saved → CSaved
saved_told s = record {
  pair = told_pair s.pair;
  sent = s.sent;
  heard = s.heard;
  own_isn = s.isns.own;
  peer_isn = s.isns.peer;
  has_key = is_some s.key_id;
  key_id = unwrap_or s.key_id 0;
}

-- what is saved of the pair at a place is told; or that it has no connection, or that the place is
-- after the last pair (own)
abbrev pub SavesAt : (is_there : Bool) → Option Saved → CSaved → ℤ → Type 0
SavesAt false saved told code = code ≡ nothing
SavesAt true None told code = code ≡ no_connection
SavesAt true (Some s) told code = (code ≡ ok) × (told ≡ saved_told s)

-- what is saved at a place of a shim (own)
abbrev pub Saves : (at : ℕ) → ShimState → CSaved → ℤ → Type 0
Saves at h told code = SavesAt (nat_lt at (length h.held.entries))
    (saved_at h.held.tables (slice_get h.held.entries at)) told code

-- the KeyID of the current key that a C program hands in, if any (own)
abbrev pub key_of : CSaved → Option ℕ
key_of c = if c.has_key then Some c.key_id else None

-- what a C program hands in of a connection (own)
abbrev pub saved_of_c : Pair → CSaved → Saved
saved_of_c p c = record {
  pair = p;
  isns = record { own = c.own_isn; peer = c.peer_isn };
  sent = c.sent;
  heard = c.heard;
  key_id = key_of c;
}

-- the numbers of a connection that was saved are at most 2^63 (own)
abbrev pub are_low : CSaved → Bool
are_low c = nat_le c.sent (2 ^ 63) && nat_le c.heard (2 ^ 63)

-- what came of bringing back a connection, as a code (own)
abbrev pub restored_code : Result (Unit {0}) RestoreRefusal → ℤ
restored_code (Ok x) = ok
restored_code (Err refusal.Held) = in_use
restored_code (Err refusal.NoNode) = no_node

-- a connection is brought back, or nothing is changed (own)
abbrev pub RestoredOr : (now : ℕ) → (before after : ShimState) → Saved
    → Result (Unit {0}) RestoreRefusal → Type 0
RestoredOr now h k s (Ok x) = k ≡ record h { held = restored h.held now s }
RestoredOr now h k s (Err why) = k ≡ h

-- a connection whose numbers are low is brought back, or it is said why not (own)
pub record Restores (now : ℕ) (h k : ShimState) (s : Saved) (code : ℤ) : Type 0 where
  pub answer : Result (Unit {0}) RestoreRefusal
  pub code_is : code ≡ restored_code answer
  pub refused : IsRefused h.held s.pair answer
  pub after : RestoredOr now h k s answer

-- a connection is brought back; not of a family that is neither 4 nor 6, nor with numbers past 2^63
-- (own)
abbrev pub RestoresAt : Option Pair → (low : Bool) → (now : ℕ) → (before after : ShimState) → CSaved
    → ℤ → Type 0
RestoresAt None low now h k c code = (code ≡ bad_family) × (k ≡ h)
RestoresAt (Some p) false now h k c code = (code ≡ bad_row) × (k ≡ h)
RestoresAt (Some p) true now h k c code = Restores now h k (saved_of_c p c) code

-- a shim is for the nodes of this key file, holds nothing, and counted nothing (own)
pub record OpensShim (text : List ℕ) (most : ℕ) (h : ShimState) : Type 0 where
  pub read : tables_of text ≡ Ok h.held.tables
  pub most_is : h.held.most ≡ most
  pub nothing_held : h.held.entries ≡ []
  pub nothing_counted : h.counters ≡ no_counters

-- a shim keeps so many pairs at most: 1 to 4,096 (own)
abbrev pub is_most_pairs : ℕ → Bool
is_most_pairs most = nat_le 1 most && nat_le most 4096

-- a shim is made in a handle that holds this; not where one is held (own)
abbrev pub MakesShimAt : Option ShimState → (text : List ℕ) → CFault → ℤ → Type 0
MakesShimAt (Some h) text told code = code ≡ holds_one
MakesShimAt None text told code =
    ReadsKeys text told code (λ tables. (code ≡ ok) ⊎ (code ≡ no_memory))

-- a shim is made that keeps so many pairs at most, where it may (own)
pub record MakesShim (most : ℕ) (held : Option ShimState) (text : List ℕ) (told : CFault)
    (code : ℤ) : Type 0 where
  pub beyond : is_most_pairs most ≡ false → code ≡ bad_most
  pub makes : is_most_pairs most ≡ true → MakesShimAt held text told code

-- a shim goes on with the tables of this key file (own)
pub record GoesOn (now : ℕ) (text : List ℕ) (h k : ShimState) : Type 0 where
  pub tables : List Table
  pub read : tables_of text ≡ Ok tables
  pub shim_is : k ≡ record h { held = carried now h.held tables }

-- a shim goes on with the tables of a key file; where the file has a fault, or memory runs out, the
-- shim is as it was (own)
pub record Rekeys (now : ℕ) (text : List ℕ) (told : CFault) (h k : ShimState) (code : ℤ) : Type 0
  where
    pub goes_on : code ≡ ok → GoesOn now text h k
    pub stays : code ≢ ok → k ≡ h
    pub code_is : ReadsKeys text told code (λ tables. (code ≡ ok) ⊎ (code ≡ no_memory))

-- how many times bytes were no datagram, as a C program sees it (own)
abbrev pub told_faults : FaultCounters → CFaultCounters
told_faults k = record {
  truncated = k.truncated;
  version = k.version;
  header_length = k.header_length;
  header_checksum = k.header_checksum;
  fragment = k.fragment;
  not_tcp = k.not_tcp;
  extension_header = k.extension_header;
  data_offset = k.data_offset;
  bad_option = k.bad_option;
}

-- how many segments the check refused, as a C program sees it (own)
abbrev pub told_verdicts : VerdictCounters → CVerdictCounters
told_verdicts k = record {
  no_ao = k.no_ao;
  two_ao = k.two_ao;
  with_md5 = k.with_md5;
  no_tuple = k.no_tuple;
  expired = k.expired;
  mac_length = k.mac_length;
  no_context = k.no_context;
  range = k.range;
  bad_mac = k.bad_mac;
}

-- what a shim counted, as a C program sees it (own)
abbrev pub told_counts : Counters → CShimCounters
told_counts k = record {
  leaving = record {
    passed = k.leaving.sealed;
    bad = told_faults k.leaving.bad;
    no_node = k.leaving.no_node;
    unkeyed = k.leaving.unkeyed;
    has_option = k.leaving.signed;
    no_context = k.leaving.no_context;
    range = k.leaving.range;
    no_key = k.leaving.no_key;
    no_room = k.leaving.no_room;
    too_long = k.leaving.too_long;
  };
  arriving = record {
    passed = k.arriving.opened;
    bad = told_faults k.arriving.bad;
    no_node = k.arriving.no_node;
    unkeyed = k.arriving.unkeyed;
    checksum = k.arriving.checksum;
    refused = told_verdicts k.arriving.refused;
    icmp = k.arriving.icmp;
  };
}
