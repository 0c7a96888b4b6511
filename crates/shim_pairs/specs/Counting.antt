-- What a shim counts. The file's tops: `leaving_counted`, `arriving_counted` and
-- `ignored_counted`.
use Rattle.std.specs.Prelude.{ℕ, ◌+◌, min, Bool, true, false, Result, Ok, Err}
use Rattle.book_endpoint.specs.declared.refusal.Refusal.{Refusal}
use Rattle.book_endpoint.specs.declared.refusal.Refusal.TheVariants as refusal
use Rattle.book_segments.specs.declared.fault.DatagramFault.{DatagramFault}
use Rattle.book_segments.specs.declared.fault.DatagramFault.TheVariants as fault
use Rattle.book_shim.specs.declared.refusal.Unsent.TheVariants as unsent
use Rattle.book_shim.specs.declared.refusal.Untaken.TheVariants as untaken
use Rattle.shim_pairs.specs.declared.answer.Passed.{Passed}
use Rattle.shim_pairs.specs.declared.answer.PairUnsent.{PairUnsent}
use Rattle.shim_pairs.specs.declared.answer.PairUnsent.TheVariants as out
use Rattle.shim_pairs.specs.declared.answer.PairUntaken.{PairUntaken}
use Rattle.shim_pairs.specs.declared.answer.PairUntaken.TheVariants as in_
use Rattle.shim_pairs.specs.declared.counters.ArrivingCounters.{ArrivingCounters}
use Rattle.shim_pairs.specs.declared.counters.Counters.{Counters}
use Rattle.shim_pairs.specs.declared.counters.FaultCounters.{FaultCounters}
use Rattle.shim_pairs.specs.declared.counters.LeavingCounters.{LeavingCounters}
use Rattle.shim_pairs.specs.declared.counters.VerdictCounters.{VerdictCounters}

-- one more, up to the greatest number of 64 bits (own)
abbrev pub next_count : ℕ → ℕ
next_count n = min (n + 1) 18446744073709551615

-- no bytes were handed in that are no datagram (own)
abbrev pub no_faults : FaultCounters
no_faults = record {
  truncated = 0;
  version = 0;
  header_length = 0;
  header_checksum = 0;
  fragment = 0;
  not_tcp = 0;
  extension_header = 0;
  data_offset = 0;
  bad_option = 0;
}

-- the check refused none (own)
abbrev pub no_verdicts : VerdictCounters
no_verdicts = record {
  no_ao = 0;
  two_ao = 0;
  with_md5 = 0;
  no_tuple = 0;
  expired = 0;
  mac_length = 0;
  no_context = 0;
  range = 0;
  bad_mac = 0;
}

-- nothing was counted (own)
abbrev pub no_counters : Counters
no_counters = record {
  leaving = record {
    sealed = 0;
    bad = no_faults;
    no_node = 0;
    foreign = 0;
    unkeyed = 0;
    signed = 0;
    no_context = 0;
    range = 0;
    no_key = 0;
    no_room = 0;
    too_long = 0;
  };
  arriving = record {
    opened = 0;
    bad = no_faults;
    no_node = 0;
    foreign = 0;
    unkeyed = 0;
    checksum = 0;
    refused = no_verdicts;
    icmp = 0;
  };
}

-- one more was no datagram, for this reason (own)
abbrev pub fault_counted : DatagramFault → FaultCounters → FaultCounters
fault_counted fault.Truncated k = record k { truncated = next_count k.truncated }
fault_counted fault.Version k = record k { version = next_count k.version }
fault_counted fault.HeaderLength k = record k { header_length = next_count k.header_length }
fault_counted fault.HeaderChecksum k = record k { header_checksum = next_count k.header_checksum }
fault_counted fault.Fragment k = record k { fragment = next_count k.fragment }
fault_counted fault.NotTcp k = record k { not_tcp = next_count k.not_tcp }
fault_counted fault.ExtensionHeader k =
    record k { extension_header = next_count k.extension_header }
fault_counted fault.DataOffset k = record k { data_offset = next_count k.data_offset }
fault_counted (fault.BadOption why) k = record k { bad_option = next_count k.bad_option }

-- the check refused one more, for this reason; a pass is none (own)
abbrev pub verdict_counted : Refusal → VerdictCounters → VerdictCounters
verdict_counted refusal.NoAo k = record k { no_ao = next_count k.no_ao }
verdict_counted refusal.TwoAo k = record k { two_ao = next_count k.two_ao }
verdict_counted refusal.WithMd5 k = record k { with_md5 = next_count k.with_md5 }
verdict_counted refusal.NoTuple k = record k { no_tuple = next_count k.no_tuple }
verdict_counted refusal.Expired k = record k { expired = next_count k.expired }
verdict_counted refusal.MacLength k = record k { mac_length = next_count k.mac_length }
verdict_counted refusal.NoContext k = record k { no_context = next_count k.no_context }
verdict_counted refusal.Range k = record k { range = next_count k.range }
verdict_counted refusal.BadMac k = record k { bad_mac = next_count k.bad_mac }

-- one more datagram of the own kernel wasn't sealed, for this reason (own)
abbrev pub unsent_counted : PairUnsent → LeavingCounters → LeavingCounters
unsent_counted out.NoNode k = record k { no_node = next_count k.no_node }
unsent_counted (out.Unsent (unsent.Bad why)) k = record k { bad = fault_counted why k.bad }
unsent_counted (out.Unsent unsent.Foreign) k = record k { foreign = next_count k.foreign }
unsent_counted (out.Unsent unsent.Unkeyed) k = record k { unkeyed = next_count k.unkeyed }
unsent_counted (out.Unsent unsent.Signed) k = record k { signed = next_count k.signed }
unsent_counted (out.Unsent unsent.NoContext) k = record k { no_context = next_count k.no_context }
unsent_counted (out.Unsent unsent.Range) k = record k { range = next_count k.range }
unsent_counted (out.Unsent unsent.NoKey) k = record k { no_key = next_count k.no_key }
unsent_counted (out.Unsent unsent.NoRoom) k = record k { no_room = next_count k.no_room }
unsent_counted (out.Unsent unsent.TooLong) k = record k { too_long = next_count k.too_long }

-- one more datagram from the network wasn't opened, for this reason (own)
abbrev pub untaken_counted : PairUntaken → ArrivingCounters → ArrivingCounters
untaken_counted in_.NoNode k = record k { no_node = next_count k.no_node }
untaken_counted (in_.Untaken (untaken.Bad why)) k = record k { bad = fault_counted why k.bad }
untaken_counted (in_.Untaken untaken.Foreign) k = record k { foreign = next_count k.foreign }
untaken_counted (in_.Untaken untaken.Unkeyed) k = record k { unkeyed = next_count k.unkeyed }
untaken_counted (in_.Untaken untaken.Checksum) k = record k { checksum = next_count k.checksum }
untaken_counted (in_.Untaken (untaken.Refused why)) k =
    record k { refused = verdict_counted why k.refused }

-- one more datagram of the own kernel was answered so (own)
abbrev pub leaving_counted : Result Passed PairUnsent → Counters → Counters
leaving_counted (Ok p) k = record {
  leaving = record k.leaving { sealed = next_count k.leaving.sealed };
  arriving = k.arriving;
}
leaving_counted (Err why) k = record {
  leaving = unsent_counted why k.leaving;
  arriving = k.arriving;
}

-- one more datagram from the network was answered so (own)
abbrev pub arriving_counted : Result Passed PairUntaken → Counters → Counters
arriving_counted (Ok p) k = record {
  leaving = k.leaving;
  arriving = record k.arriving { opened = next_count k.arriving.opened };
}
arriving_counted (Err why) k = record {
  leaving = k.leaving;
  arriving = untaken_counted why k.arriving;
}

-- one more datagram came as ICMP; it is counted where it is kept from the own kernel (own)
abbrev pub ignored_counted : (is_ignored : Bool) → Counters → Counters
ignored_counted false k = k
ignored_counted true k = record {
  leaving = k.leaving;
  arriving = record k.arriving { icmp = next_count k.arriving.icmp };
}
