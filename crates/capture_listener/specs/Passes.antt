-- The initial sequence numbers of a segment that passes (own).
use Rattle.std.specs.Prelude.{Option, Some, None}
use Rattle.book_sessions.specs.declared.uses.FlowIsns.{FlowIsns}
use Rattle.capture_check.specs.declared.known.KnownConnection.{KnownConnection}

-- the numbers of a connection that is known, or else these (own)
abbrev pub isns_known : FlowIsns → Option KnownConnection → FlowIsns
isns_known others None = others
isns_known others (Some k) = record { own = k.source_isn; peer = Some k.destination_isn }
