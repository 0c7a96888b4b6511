-- The lines of a capture that is checked, and whether anything is amiss. Our own format. Its tops
-- are `check_text` and `is_amiss`.
use Rattle.std.specs.Prelude.{ℕ, ◌/◌, ◌||◌, Bool, true, false, not, List, [], ◌∷◌, ◌++◌, length}
use Rattle.std.specs.Prelude.{codes, decimal, Option, Some, None, option_map, if◌then◌else◌}
use Rattle.std.specs.List.{filter, flat_map, list_any}
use Rattle.book_segments.specs.Options.{find_ao}
use Rattle.book_segments.specs.Segments.{Segment}
use Rattle.book_keys.specs.Rows.{Table}
use Rattle.book_lines.specs.Texts.{line_text}
use Rattle.book_captures.specs.Captures.{CapturePacket}
use Rattle.book_cmd_check.specs.declared.given.GivenIsns.{GivenIsns}
use Rattle.book_cmd_check.specs.Captures.{Unreadable, saying_texts}
use Rattle.book_scope_texts.specs.Addresses.{usual_address_text}
use Rattle.book_scope_texts.specs.Instants.{instant_text}
use Rattle.book_sessions.specs.declared.uses.KeyIds.{KeyIds}
use Rattle.book_sessions.specs.OutcomeTexts.{passed_text}
use Rattle.book_sessions.specs.SessionTexts.{id_text}
use Rattle.book_sessions.specs.Sessions.{ids_found}
use Rattle.book_sessions.specs.declared.class.PacketClass.{PacketClass}
use Rattle.book_sessions.specs.declared.class.PacketClass.TheVariants as class
use Rattle.book_sessions.specs.CheckedPackets.{CheckedContent, CheckedPacket, OfSegment, OfBytes}
use Rattle.book_sessions.specs.CheckedPackets.{OfNothing, checked_packets, class_of, classes_of}

-- when a packet was seen, to the second; a dash where the capture doesn't say (own)
abbrev pub seen_time_text : (nanoseconds : Option ℕ) → List ℕ
seen_time_text None = codes "-"
seen_time_text (Some time) = instant_text (time / 1000000000)

-- the KeyID and the RNextKeyID of the one TCP-AO option, in front of other texts (RFC 5925, section
-- 2.2)
abbrev pub key_id_texts : Option KeyIds → (others : List (List ℕ)) → List (List ℕ)
key_id_texts ids others = id_text (option_map (λ k. k.key_id) ids)
    ∷ id_text (option_map (λ k. k.rnext_key_id) ids) ∷ others

-- the sockets and key ids of a segment, in front of other texts (RFC 9293, section 3.1)
abbrev pub segment_texts : Segment → (others : List (List ℕ)) → List (List ℕ)
segment_texts d others =
    usual_address_text d.source.address ∷ decimal d.source.port
    ∷ usual_address_text d.destination.address ∷ decimal d.destination.port
    ∷ key_id_texts (ids_found (find_ao d.area)) others

-- a dash for each of them, where a packet has no segment (own)
abbrev pub dash_texts : (others : List (List ℕ)) → List (List ℕ)
dash_texts others = codes "-" ∷ codes "-" ∷ codes "-" ∷ codes "-" ∷ codes "-" ∷ codes "-" ∷ others

-- what a packet has, in words (own)
abbrev pub content_texts : CheckedContent → List (List ℕ)
content_texts (OfSegment d said) = segment_texts d (saying_texts said)
content_texts (OfBytes fault told) = dash_texts (saying_texts (Unreadable fault))
content_texts (OfNothing why) = dash_texts (codes "other" ∷ passed_text why ∷ [])

-- a packet in words: its number, when it was seen, and what it has (own)
abbrev pub packet_texts : CheckedPacket → List (List ℕ)
packet_texts p = decimal p.number ∷ seen_time_text p.time ∷ content_texts p.content

-- the line of a packet (own)
abbrev pub checked_line : CheckedPacket → List ℕ
checked_line p = line_text (packet_texts p)

-- it counts as foreign (own)
abbrev pub is_foreign_class : PacketClass → Bool
is_foreign_class class.Foreign = true
is_foreign_class _ = false

-- it counts as a segment that passes (RFC 5925, section 7.5)
abbrev pub is_passing_class : PacketClass → Bool
is_passing_class class.Passes = true
is_passing_class _ = false

-- it counts as a segment that doesn't pass: that `check` refuses, or knows no node for, or has no
-- room for, or that was cut off (own)
abbrev pub is_refused_class : PacketClass → Bool
is_refused_class class.Refused = true
is_refused_class _ = false

-- it counts as a packet without a segment (own)
abbrev pub is_other_class : PacketClass → Bool
is_other_class class.Other = true
is_other_class class.Doubtful = true
is_other_class _ = false

-- it is amiss: a segment that doesn't pass, or a packet that may have one (own)
abbrev pub is_amiss_class : PacketClass → Bool
is_amiss_class class.Refused = true
is_amiss_class class.Doubtful = true
is_amiss_class _ = false

-- the line of a packet, if it is listed: all are, or those that aren't foreign (own)
abbrev pub listed_line : (all : Bool) → List Table → CheckedPacket → List ℕ
listed_line all tables p = if all || not (is_foreign_class (class_of tables p.content))
    then checked_line p else []

-- the lines of packets (own)
abbrev pub listed_lines : (all : Bool) → List Table → List CheckedPacket → List ℕ
listed_lines all tables packets = flat_map (listed_line all tables) packets

-- how many are of the chosen ones (own)
abbrev pub class_count : (chosen : PacketClass → Bool) → List PacketClass → ℕ
class_count chosen classes = length (filter chosen classes)

-- the last line: how many packets there are, and how many of them count as what (own)
abbrev pub total_line : List PacketClass → List ℕ
total_line classes = line_text (codes "packets" ∷ decimal (length classes)
    ∷ codes "pass" ∷ decimal (class_count is_passing_class classes)
    ∷ codes "refused" ∷ decimal (class_count is_refused_class classes)
    ∷ codes "foreign" ∷ decimal (class_count is_foreign_class classes)
    ∷ codes "other" ∷ decimal (class_count is_other_class classes) ∷ [])

-- something is amiss: a packet is, or none of them passes (own)
abbrev pub are_amiss : List PacketClass → Bool
are_amiss classes = list_any is_amiss_class classes || not (list_any is_passing_class classes)

-- the lines of the packets of a capture, checked after given handshakes, without the last line
-- (own)
abbrev pub check_lines : (all : Bool) → List Table → List GivenIsns → List CapturePacket → List ℕ
check_lines all tables given packets =
    listed_lines all tables (checked_packets tables given packets)

-- the lines of the packets of a capture, checked after given handshakes, and the last line (own)
unfoldable pub check_text : (all : Bool) → List Table → List GivenIsns → List CapturePacket →
    List ℕ
check_text all tables given packets = check_lines all tables given packets
    ++ total_line (classes_of tables (checked_packets tables given packets))

-- something is amiss with the packets of a capture, checked after given handshakes (own)
unfoldable pub is_amiss : List Table → List GivenIsns → List CapturePacket → Bool
is_amiss tables given packets = are_amiss (classes_of tables (checked_packets tables given packets))
