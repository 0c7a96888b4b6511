-- The text of a session's ladder: a line for each segment, of at most 100 columns where the number
-- of its packet has at most six digits, with its two ends as two upright strokes. Its tops are
-- `session_ladder` and `left_text`.
use Rattle.std.specs.Prelude.{ℕ, ◌-◌, ◌/◌, ◌==◌, nat_lt, List, [], ◌∷◌, ◌++◌, codes, decimal}
use Rattle.std.specs.Prelude.{length, replicate, Option, Some, None, option_map, if◌then◌else◌}
use Rattle.std.specs.List.{flat_map}
use Rattle.book_base.specs.declared.address.Socket.{Socket}
use Rattle.book_base.specs.declared.end.End.{End}
use Rattle.book_base.specs.declared.end.End.TheVariants.{A, B}
use Rattle.book_segments.specs.Segments.{FIN, SYN, RST, PSH, ACK}
use Rattle.book_segments.specs.Sockets.{same_socket}
use Rattle.book_lines.specs.Texts.{spaced}
use Rattle.book_link.specs.Reports.{verdict_text}
use Rattle.book_link.specs.Worlds.{other}
use Rattle.book_scope_texts.specs.Addresses.{usual_address_text}
use Rattle.book_scope_texts.specs.Instants.{instant_text}
use Rattle.book_draw.specs.Ladders.{Pen, arrowhead, blank_way, length_label, line_at, way_to}
use Rattle.book_sessions.specs.declared.outcome.SegmentOutcome.{SegmentOutcome}
use Rattle.book_sessions.specs.declared.outcome.SegmentOutcome.TheVariants as outcome
use Rattle.book_sessions.specs.OutcomeTexts.{outcome_text}
use Rattle.book_sessions.specs.SessionTexts.{id_text}
use Rattle.book_draw.specs.declared.session_rung.SessionEnds.{SessionEnds}
use Rattle.book_draw.specs.declared.session_rung.SessionRung.{SessionRung}
use Rattle.book_draw.specs.declared.span.DrawnTime.{DrawnTime}
use Rattle.book_draw.specs.declared.span.LeftOut.{LeftOut}
use Rattle.book_draw.specs.declared.span.LeftRun.{LeftRun}
use Rattle.book_draw.specs.SessionRungs.{has_flag, rungs_between, session_at, sessions_drawn}
use Rattle.book_draw.specs.Times.{left_runs, left_words, rungs_within}

-- the letter of a flag, where it is set (own)
abbrev pub flag_letter : (flag letter flags : ℕ) → List ℕ
flag_letter flag letter flags = if has_flag flag flags then letter ∷ [] else []

-- the letters of the flags that are set: SYN, ACK, PSH, FIN, RST, URG, ECE and CWR; a hyphen for
-- none (RFC 9293, section 3.1, and own)
unfoldable pub flag_letters : (flags : ℕ) → List ℕ
flag_letters flags = if flags == 0 then codes "-" else
    flag_letter SYN 83 flags ++ (flag_letter ACK 65 flags ++ (flag_letter PSH 80 flags
    ++ (flag_letter FIN 70 flags ++ (flag_letter RST 82 flags ++ (flag_letter 0x20 85 flags
    ++ (flag_letter 0x40 69 flags ++ flag_letter 0x80 67 flags))))))

-- what is written on the arrow of a segment: its flags, the key that it is under, the key that it
-- asks for, and how many bytes it carries (own)
abbrev pub rung_label : SessionRung → List ℕ
rung_label r =
    spaced (flag_letters r.flags ∷ codes "key" ∷ id_text (option_map (λ ids. ids.key_id) r.ids)
    ∷ codes "asks" ∷ id_text (option_map (λ ids. ids.rnext_key_id) r.ids) ∷ [])
    ++ length_label r.length

-- the byte of which the arrow of a segment is drawn: of one that is verified, of one that is right
-- under numbers that were only seen, of another one (own)
abbrev pub rung_stroke : SegmentOutcome → ℕ
rung_stroke outcome.Verified = 45
rung_stroke (outcome.Refused why) = 126
rung_stroke outcome.NoNode = 126
rung_stroke outcome.TooMany = 126
rung_stroke outcome.Unconfirmed = 46
rung_stroke (outcome.UnconfirmedRefused why) = 126
rung_stroke outcome.CutOff = 126

-- the words beside the end that a segment comes to: what is said of it (own)
abbrev pub said_texts : SegmentOutcome → List (List ℕ)
said_texts (outcome.Refused why) = codes "refused" ∷ verdict_text why ∷ []
said_texts said = outcome_text said ∷ []

-- the words beside the end that a segment comes from: when it was seen (own)
abbrev pub time_margin : (time : ℕ) → List ℕ
time_margin time = 32 ∷ instant_text (time / 1000000000)

-- the end that a segment comes to: the right one, where it comes from the left one (own)
abbrev pub reached_end : SessionEnds → SessionRung → End
reached_end e r = if same_socket r.source e.left then B else A

-- the left margin: the number of a packet at its left, and the words at its right (own)
abbrev pub numbered_line : (packet : ℕ) → (words : List ℕ) → List ℕ
numbered_line packet words =
    decimal packet ++ (replicate (27 - length (decimal packet) - length words) 32 ++ words)

-- the words beside an end, with the number of the packet where the end is the left one (own)
abbrev pub margin_beside : End → (packet : ℕ) → (words : List ℕ) → List ℕ
margin_beside A packet words = numbered_line packet words
margin_beside B packet words = words

-- an arrow from one end to the other that is drawn of this byte (own)
abbrev pub pen_to : End → (stroke : ℕ) → Pen
pen_to at stroke = record { lead = stroke; stroke = stroke; tip = arrowhead at }

-- the line of an arrow to this end: the words beside it, and beside the other end (own)
abbrev pub arrow_line : End → (stroke : ℕ) → (label own other : List ℕ) → List ℕ
arrow_line at stroke label own other = line_at at own (way_to at (pen_to at stroke) label) other

-- the line of a segment that comes to this end (own)
abbrev pub line_to : End → SessionRung → List ℕ
line_to at r = arrow_line at (rung_stroke r.outcome) (rung_label r)
    (margin_beside at r.packet (spaced (said_texts r.outcome)))
    (margin_beside (other at) r.packet (time_margin r.time))

-- the line of a segment between these ends (own)
unfoldable pub session_rung_text : SessionEnds → SessionRung → List ℕ
session_rung_text e r = line_to (reached_end e r) r

-- the name of an end: its address and its port (own)
abbrev pub end_name : Socket → List ℕ
end_name s = spaced (usual_address_text s.address ∷ decimal s.port ∷ [])

-- two names above their strokes; a left one that is longer than its margin has a line of its own
-- (own)
abbrev pub names_text : (left right : List ℕ) → List ℕ
names_text left right =
    if nat_lt 27 (length left) then left ++ (10 ∷ line_at A [] blank_way right)
    else line_at A left blank_way right

-- the names of the ends above their strokes (own)
unfoldable pub ends_text : SessionEnds → List ℕ
ends_text e = names_text (end_name e.left) (end_name e.right)

-- the ladder of the segments between these ends that were seen within a time; there is none without
-- ends (own)
abbrev pub ladder_between : DrawnTime → Option SessionEnds → List SessionRung → List ℕ
ladder_between t None rs = []
ladder_between t (Some e) rs =
    ends_text e ++ flat_map (session_rung_text e) (rungs_within t (rungs_between (Some e) rs))

-- the ladder of the session of this number within a time (own)
abbrev pub session_ladder : DrawnTime → (number : ℕ) → List SessionRung → List ℕ
session_ladder t number rs = ladder_between t (session_at number (sessions_drawn rs)) rs

-- the line of segments that are left out (own)
abbrev pub left_line : LeftRun → List ℕ
left_line m = left_words m ++ 10 ∷ []

-- the lines of the segments that a time leaves out, which stand behind the ladder (own)
abbrev pub left_text : DrawnTime → LeftOut → List ℕ
left_text t n = flat_map left_line (left_runs t n)
