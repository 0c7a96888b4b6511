-- The numbers by which a C program is told of answers (own).
use Rattle.std.specs.Prelude.{ℕ}
use Rattle.book_endpoint.specs.declared.phase.Phase.{Phase}
use Rattle.book_endpoint.specs.declared.phase.Phase.TheVariants as phases
use Rattle.book_endpoint.specs.declared.arrival.Arrival.{Arrival}
use Rattle.book_endpoint.specs.declared.arrival.Arrival.TheVariants as arrivals
use Rattle.book_endpoint.specs.declared.refusal.Refusal.{Refusal}
use Rattle.book_endpoint.specs.declared.refusal.Refusal.TheVariants as refusals
use Rattle.book_segments.specs.declared.fault.DatagramFault.{DatagramFault}
use Rattle.book_segments.specs.declared.fault.DatagramFault.TheVariants as datagrams
use Rattle.book_keys.specs.declared.fault.Column.{Column}
use Rattle.book_keys.specs.declared.fault.Column.TheVariants as columns

-- the phases in their order, Listen first (RFC 9293, section 3.3.2)
abbrev pub phase_number : Phase → ℕ
phase_number phases.Listen = 0
phase_number phases.SynSent = 1
phase_number phases.SynReceived = 2
phase_number phases.Established = 3
phase_number phases.FinWait1 = 4
phase_number phases.FinWait2 = 5
phase_number phases.CloseWait = 6
phase_number phases.Closing = 7
phase_number phases.LastAck = 8
phase_number phases.TimeWait = 9
phase_number phases.Closed = 10

-- the columns of a row, and what else of a node can be faulty (own)
abbrev pub column_number : Column → ℕ
column_number columns.Other = 0
column_number columns.Name = 1
column_number columns.Address = 2
column_number columns.Rows = 3
column_number columns.AdminKeyName = 4
column_number columns.LocalKeyName = 5
column_number columns.PeerKeyName = 6
column_number columns.Peers = 7
column_number columns.Interfaces = 8
column_number columns.Protocol = 9
column_number columns.ProtocolSpecificInfo = 10
column_number columns.Kdf = 11
column_number columns.AlgId = 12
column_number columns.Key = 13
column_number columns.Direction = 14
column_number columns.SendLifetimeStart = 15
column_number columns.SendLifetimeEnd = 16
column_number columns.AcceptLifetimeStart = 17
column_number columns.AcceptLifetimeEnd = 18
column_number columns.LocalPort = 19
column_number columns.PeerPort = 20

-- why bytes are no datagram, from 1 (own)
abbrev pub datagram_number : DatagramFault → ℕ
datagram_number datagrams.Truncated = 1
datagram_number datagrams.Version = 2
datagram_number datagrams.HeaderLength = 3
datagram_number datagrams.HeaderChecksum = 4
datagram_number datagrams.Fragment = 5
datagram_number datagrams.NotTcp = 6
datagram_number datagrams.ExtensionHeader = 7
datagram_number datagrams.DataOffset = 8
datagram_number (datagrams.BadOption _) = 9

-- what the check found, 0 for a pass (own)
abbrev pub verdict_number : Refusal → ℕ
verdict_number refusals.NoAo = 1
verdict_number refusals.TwoAo = 2
verdict_number refusals.WithMd5 = 3
verdict_number refusals.NoTuple = 4
verdict_number refusals.Expired = 5
verdict_number refusals.MacLength = 6
verdict_number refusals.NoContext = 7
verdict_number refusals.Range = 8
verdict_number refusals.BadMac = 9

-- the answers to an arrival (own)
abbrev pub arrival_number : Arrival → ℕ
arrival_number (arrivals.Bad _) = 0
arrival_number arrivals.Foreign = 1
arrival_number arrivals.Checksum = 2
arrival_number arrivals.Closed = 3
arrival_number (arrivals.Refused _) = 4
arrival_number arrivals.Unexpected = 5
arrival_number arrivals.Window = 6
arrival_number arrivals.Challenge = 7
arrival_number arrivals.NoAck = 8
arrival_number arrivals.BadAck = 9
arrival_number arrivals.TooManyRuns = 10
arrival_number arrivals.Reset = 11
arrival_number arrivals.Taken = 12

-- the reason of a bad or a refused one, else 0 (own)
abbrev pub reason_number : Arrival → ℕ
reason_number (arrivals.Bad fault) = datagram_number fault
reason_number (arrivals.Refused verdict) = verdict_number verdict
reason_number _ = 0
