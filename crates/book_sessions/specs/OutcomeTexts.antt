-- What comes of a packet, in words, and which of it is amiss. Our own format.
use Rattle.std.specs.Prelude.{ℕ, Bool, true, false, List, ◌++◌, codes}
use Rattle.book_segments.specs.declared.fault.DatagramFault.{DatagramFault}
use Rattle.book_segments.specs.declared.fault.DatagramFault.TheVariants as fault
use Rattle.book_segments.specs.Faults.{fault_text}
use Rattle.book_captures.specs.declared.reasons.Skipped.{Skipped}
use Rattle.book_captures.specs.declared.reasons.Skipped.TheVariants as skipped
use Rattle.book_link.specs.Reports.{verdict_text}
use Rattle.book_captures.specs.PacketLines.{reason_text}
use Rattle.book_sessions.specs.declared.outcome.SegmentOutcome.{SegmentOutcome}
use Rattle.book_sessions.specs.declared.outcome.SegmentOutcome.TheVariants as outcome
use Rattle.book_sessions.specs.declared.outcome.PassedOver.{PassedOver}
use Rattle.book_sessions.specs.declared.outcome.PassedOver.TheVariants as passed

-- what is said of a segment: that it is verified, or why not, in `check`'s words (own)
abbrev pub outcome_text : SegmentOutcome → List ℕ
outcome_text outcome.Verified = codes "verified"
outcome_text (outcome.Refused why) = verdict_text why
outcome_text outcome.NoNode = codes "unknown-node"
outcome_text outcome.TooMany = codes "full"
outcome_text outcome.Unconfirmed = codes "unconfirmed"
outcome_text (outcome.UnconfirmedRefused why) = codes "unconfirmed-" ++ verdict_text why
outcome_text outcome.CutOff = codes "cut-off"

-- why a packet is passed over (own)
abbrev pub passed_text : PassedOver → List ℕ
passed_text (passed.NoDatagram why) = reason_text why
passed_text passed.NoTime = codes "no time"
passed_text (passed.Faulty fault) = fault_text fault

-- it is verified (RFC 5925, section 7.5)
abbrev pub is_verified : SegmentOutcome → Bool
is_verified outcome.Verified = true
is_verified _ = false

-- a frame without a datagram is one that may hold IP, which can't be read (own)
abbrev pub is_unread : Skipped → Bool
is_unread skipped.NotIp = false
is_unread skipped.NotSession = false
is_unread _ = true

-- bytes that are no datagram of TCP are faulty, and not those of another protocol (own)
abbrev pub is_broken : DatagramFault → Bool
is_broken fault.NotTcp = false
is_broken _ = true

-- a packet that is passed over for this reason may be one of TCP (own)
abbrev pub is_doubtful : PassedOver → Bool
is_doubtful (passed.NoDatagram why) = is_unread why
is_doubtful passed.NoTime = true
is_doubtful (passed.Faulty fault) = is_broken fault
