-- What a line of a checker says of a segment (own).
use Rattle.std.specs.Prelude.{Bool, true, false, ◌||◌, Option, Some, None, Ok, Err}
use Rattle.book_cmd_check.specs.Captures.{Saying, Unreadable}
use Rattle.book_endpoint.specs.declared.passed.Passed.{Passed}
use Rattle.book_endpoint.specs.declared.refusal.Refusal.{Refusal}
use Rattle.book_endpoint.specs.declared.refusal.Refusal.TheVariants as refusals
use Rattle.ao_check.specs.Verdicts.{Verdict}
use Rattle.book_sessions.specs.declared.outcome.SegmentOutcome.{SegmentOutcome}
use Rattle.book_sessions.specs.declared.outcome.SegmentOutcome.TheVariants as outcome
use Rattle.capture_check.specs.declared.answer.CheckLine.{CheckLine}
use Rattle.capture_check.specs.declared.answer.CheckLine.TheVariants as line

-- the bytes are a datagram (own)
abbrev pub is_readable : Saying → Bool
is_readable (Unreadable fault) = false
is_readable _ = true

-- a node judged the segment (own)
abbrev pub says_judged : CheckLine → Bool
says_judged (line.Verdict v checksum) = true
says_judged _ = false

-- a node refused the segment (own)
abbrev pub says_refused : CheckLine → Bool
says_refused (line.Verdict (Err why) checksum) = true
says_refused _ = false

-- a node knows no context for the segment (own)
abbrev pub says_unknown : CheckLine → Bool
says_unknown (line.Verdict (Err refusals.NoContext) checksum) = true
says_unknown _ = false

-- the MAC of the segment is wrong (own)
abbrev pub says_bad_mac : CheckLine → Bool
says_bad_mac (line.Verdict (Err refusals.BadMac) checksum) = true
says_bad_mac _ = false

-- the number of the segment is out of range, as one below 0 (own)
abbrev pub says_range : CheckLine → Bool
says_range (line.Verdict (Err refusals.Range) checksum) = true
says_range _ = false

-- the segment may pass over more laps (own)
abbrev pub says_searched : CheckLine → Bool
says_searched l = says_bad_mac l || says_range l

-- why a segment is refused whose sockets were opened anew: not for its numbers (own)
abbrev pub refusal_anew : Refusal → Refusal
refusal_anew refusals.BadMac = refusals.NoContext
refusal_anew refusals.Range = refusals.NoContext
refusal_anew why = why

-- the same, of a line (own)
abbrev pub line_anew : (anew : Bool) → CheckLine → CheckLine
line_anew true (line.Verdict (Err why) checksum) =
    line.Verdict (Err (refusal_anew why)) checksum
line_anew anew l = l

-- what comes of a segment with this verdict (own)
abbrev pub by_verdict : Verdict → SegmentOutcome
by_verdict (Ok p) = outcome.Verified
by_verdict (Err why) = outcome.Refused why

-- what comes of a segment with this line; none is of bytes that are no datagram (own)
abbrev pub by_line : CheckLine → SegmentOutcome
by_line (line.Bad fault) = outcome.NoNode
by_line line.UnknownNode = outcome.NoNode
by_line (line.Verdict v checksum) = by_verdict v
by_line (line.Full checksum) = outcome.TooMany

-- what comes of a segment with this verdict, under numbers that were only seen (own)
abbrev pub by_unconfirmed : Verdict → SegmentOutcome
by_unconfirmed (Ok p) = outcome.Unconfirmed
by_unconfirmed (Err refusals.NoContext) = outcome.Refused refusals.NoContext
by_unconfirmed (Err why) = outcome.UnconfirmedRefused why

-- what comes of a segment with this line, under numbers that were only seen (own)
abbrev pub by_seen_line : CheckLine → SegmentOutcome
by_seen_line (line.Bad fault) = outcome.NoNode
by_seen_line line.UnknownNode = outcome.NoNode
by_seen_line (line.Verdict v checksum) = by_unconfirmed v
by_seen_line (line.Full checksum) = outcome.TooMany

-- what is told of a segment that passes, with this verdict (own)
abbrev pub pass_by_verdict : Verdict → Option Passed
pass_by_verdict (Ok p) = Some p
pass_by_verdict (Err why) = None

-- the same, with this line (own)
abbrev pub pass_by_line : CheckLine → Option Passed
pass_by_line (line.Verdict v checksum) = pass_by_verdict v
pass_by_line _ = None
