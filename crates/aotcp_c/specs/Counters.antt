-- What a C program is told of what was counted (own).
use Rattle.std.specs.Prelude.{◌≡◌, ℤ, Option, Some, None, true, false}
use Rattle.book_base.specs.declared.address.Pair.{Pair}
use Rattle.book_endpoint.specs.States.{EndState}
use Rattle.book_cmd_node.specs.NodeRuns.{held_end}
use Rattle.book_stack.specs.declared.counters.Counters.{Counters}
use Rattle.book_stack.specs.declared.key_ids.KeyIds.{KeyIds}
use Rattle.book_stack.specs.declared.key_ids.KeyIdsSeen.{KeyIdsSeen}
use Rattle.book_stack.specs.declared.tally.Tally.{Tally}
use Rattle.book_stack.specs.Counters.{StackCounts}
use Rattle.book_stack.specs.KeyIds.{no_key_ids}
use Rattle.book_stack.specs.Stacks.{StackState}
use Rattle.aotcp_c.specs.declared.shapes.CCounters.{CCounters}
use Rattle.aotcp_c.specs.declared.shapes.CKeyIds.{CKeyIds}
use Rattle.aotcp_c.specs.Codes.{bad_family, no_connection, ok}

-- the key ids of a segment as a C program sees them; all zero where there is none (own)
abbrev pub told_ids : Option KeyIds → CKeyIds
told_ids None = record { there = false; key_id = 0; rnext_key_id = 0 }
told_ids (Some ids) = record { there = true; key_id = ids.key_id; rnext_key_id = ids.rnext_key_id }

-- counters, and the key ids that were seen last, as a C program sees them (own)
abbrev pub told_counters : Counters → KeyIdsSeen → CCounters
told_counters k seen = record {
  passed = k.passed;
  bad = k.bad;
  foreign = k.foreign;
  checksum = k.checksum;
  closed = k.closed;
  no_ao = k.no_ao;
  two_ao = k.two_ao;
  with_md5 = k.with_md5;
  no_row = k.no_tuple;
  expired = k.expired;
  mac_length = k.mac_length;
  no_context = k.no_context;
  range = k.range;
  bad_mac = k.bad_mac;
  no_connection = k.no_connection;
  knocks = k.knocks;
  sent = k.sent;
  sent_again = k.sent_again;
  ids_sent = told_ids seen.sent;
  ids_heard = told_ids seen.heard;
}

-- what was counted of a connection is told, or that there is none (own)
abbrev pub IsTallyOf : Option Tally → CCounters → ℤ → Type 0
IsTallyOf None told code = code ≡ no_connection
IsTallyOf (Some t) told code = (code ≡ ok) × (told ≡ told_counters t.counters t.ids)

-- the code says whether an end is held (own)
abbrev pub SaysHeld : Option EndState → ℤ → Type 0
SaysHeld None code = code ≡ no_connection
SaysHeld (Some e) code = code ≡ ok

-- what was counted of the connection of a pair is told, exactly where the pair is held (own)
abbrev pub IsTally : Option Pair → StackState → StackCounts → CCounters → ℤ → Type 0
IsTally None s n told code = code ≡ bad_family
IsTally (Some pair) s n told code =
    IsTallyOf (n.pairs pair) told code × SaysHeld (held_end pair s.node.ends) code

-- what was counted of the node is told; it has no key ids (own)
pub record TellsNode (s : StackState) (n : StackCounts) (told : CCounters) (code : ℤ)
    : Type 0 where
  pub is : code ≡ ok
  pub counted : told ≡ told_counters n.node no_key_ids
