-- What the laws of a capture that is checked speak of (own).
use Rattle.std.specs.Prelude.{◌≡◌, ℕ, Bool, true, false, List, ◌++◌, take, drop}
use Rattle.std.specs.List.{All, Any, filter, flat_map}
use Rattle.book_segments.specs.Segments.{Segment}
use Rattle.book_keys.specs.Rows.{Table}
use Rattle.book_lines.specs.Texts.{line_text}
use Rattle.book_cmd_check.specs.Captures.{Saying, is_pass}
use Rattle.book_sessions.specs.CheckedPackets.{CheckedContent, CheckedPacket, OfSegment, OfBytes}
use Rattle.book_sessions.specs.CheckedPackets.{OfNothing, class_of, is_foreign_segment}
use Rattle.book_sessions.specs.CheckedLines.{is_amiss_class, packet_texts}

-- `check` says something of it: it is a datagram, and not nothing that is judged (own)
abbrev pub is_said : CheckedContent → Bool
is_said (OfSegment d said) = true
is_said (OfBytes fault told) = true
is_said (OfNothing why) = false

-- the packets that have a datagram of which `check` says something (own)
abbrev pub said_packets : List CheckedPacket → List CheckedPacket
said_packets packets = filter (λ p. is_said p.content) packets

-- the first text, and those from the ninth on (own)
abbrev pub first_and_from_ninth : List (List ℕ) → List (List ℕ)
first_and_from_ninth texts = take 1 texts ++ drop 8 texts

-- the line of a packet without its time, its sockets and its key ids (own)
abbrev pub shortened_line : CheckedPacket → List ℕ
shortened_line p = line_text (first_and_from_ninth (packet_texts p))

-- the lines of packets, shortened so (own)
abbrev pub shortened_lines : List CheckedPacket → List ℕ
shortened_lines packets = flat_map shortened_line packets

-- the segment, if it has one that isn't foreign, passes (own)
abbrev pub PassesUnlessForeign : List Table → CheckedContent → Type 0
PassesUnlessForeign tables content = (d : Segment) (said : Saying) → content ≡ OfSegment d said →
    is_foreign_segment tables d ≡ false → is_pass said ≡ true

-- it has a segment that isn't foreign, and passes (own)
pub record HasPassing (tables : List Table) (content : CheckedContent) : Type 0 where
  pub segment : Segment
  pub saying : Saying
  pub has : content ≡ OfSegment segment saying
  pub own : is_foreign_segment tables segment ≡ false
  pub passes : is_pass saying ≡ true

-- all segments that aren't foreign pass, and one does; and no packet is amiss (own)
pub record AllPass (tables : List Table) (packets : List CheckedPacket) : Type 0 where
  pub each : All (λ p. PassesUnlessForeign tables p.content) packets
  pub some : Any (λ p. HasPassing tables p.content) packets
  pub none : All (λ p. is_amiss_class (class_of tables p.content) ≡ false) packets
