-- The line of each packet is read back.
use Rattle.std.proofs.Common.{◌≡◌, inl, inr, ℕ, ◌+◌, ◌/◌, ◌<◌, ◌≤◌, ◌^◌, Bool, true, false, List, [], ◌∷◌, ◌++◌, length, map, codes, decimal, Option, Some, None, Result, Ok, Err, if◌then◌else◌, refl, sym, ap, ◌∙◌, append_assoc, arith}
use Rattle.std.specs.List.{All}
use Rattle.std.proofs.lemmas.Bool.{cases_lt, le-ltb}
use Rattle.std.proofs.lemmas.Fmt.{decimal_is_IsNumeral, length-decimal-le}
use Rattle.std.proofs.lemmas.List.{length-append, length-take, get_or_past}
use Rattle.std.proofs.lemmas.List.Elements.{All-take, All-get_or}
use Rattle.hex.specs.Hex.{IsBytes}
use Rattle.book_base.specs.Hexadecimal.{hex_of}
use Rattle.book_base.specs.Lines.{is_newline, lines_of, words_of}
use Rattle.book_base.proofs.LineLaws.{NoNewline, decimal_plain, lines_of-line}
use Rattle.book_lines.specs.Lines.{says_something}
use Rattle.book_cmd_check.specs.Captures.{Stored}
use Rattle.book_cmd_check.specs.StoredLines.{by_line, stored_line, stored_from, stored_input}
use Rattle.book_captures.specs.declared.reasons.Header.{Header}
use Rattle.book_captures.specs.declared.reasons.Header.TheVariants as header
use Rattle.book_captures.specs.declared.reasons.Skipped.{Skipped}
use Rattle.book_captures.specs.declared.reasons.Skipped.TheVariants.{UnknownLink, NotIp, Version, NotSession, Short, Cut}
use Rattle.book_captures.specs.Frames.{Datagram}
use Rattle.book_captures.specs.Captures.{CapturePacket, frame_datagram}
use Rattle.book_captures.specs.PacketLines.{header_text, reason_text, remark, judged_bytes, line_by, packet_line, packet_lines}
use Rattle.book_sessions.specs.declared.outcome.PassedOver.{PassedOver}
use Rattle.book_sessions.specs.Sessions.{all_captured, all_stored, captured_by, captured_of_packet, judged_of, mended_of, stored_before}
use Rattle.book_base.specs.Hexadecimal.{IsByte}
use Rattle.law_sessions.specs.SeenPackets.{IsSeen, AreSeen}
use Rattle.law_sessions.proofs.Datagrams.{IsFound, is_found}
use Rattle.law_sessions.proofs.Reasons.{link_number}
use Rattle.law_pcap.proofs.StoredWords.{stored_back, stored_plain}
use Rattle.law_pcap.proofs.Records.{by_places}

-- ---- no newline stands within a line

newline_free : List ℕ → Bool
newline_free [] = true
newline_free (b ∷ w) = if is_newline b then false else newline_free w

plain_step : (newline : Bool) (b : ℕ) (w : List ℕ) → is_newline b ≡ newline → (newline_free w ≡ true → NoNewline w) → (if newline then false else newline_free w) ≡ true → NoNewline (b ∷ w)
plain_step true b w is others e = absurd (cc)
plain_step false b w is others e = (is, others e)

plain_by : (w : List ℕ) → newline_free w ≡ true → NoNewline w
unfolding newline_free
plain_by [] e = tt
plain_by (b ∷ w) e = plain_step (is_newline b) b w refl (plain_by w) e

plain_append : (v w : List ℕ) → NoNewline v → NoNewline w → NoNewline (v ++ w)
plain_append [] w hv hw = hw
plain_append (b ∷ v) w hv hw = (hv.0, plain_append v w hv.1 hw)

plain_decimal : (n : ℕ) → n < 18446744073709551616 → NoNewline (decimal n)
plain_decimal n small = (decimal_plain (decimal n) (decimal_is_IsNumeral n (omega arith)).0.1).1

-- a text without a newline, of a few bytes
record Brief (w : List ℕ) : Type 0 where
  plain : NoNewline w
  short : length w ≤ 64

brief : (w : List ℕ) → newline_free w ≡ true → length w ≤ 64 → Brief w
brief w e short = record { plain = plain_by w e; short = short }

brief_append : (v w : List ℕ) → Brief v → length v ≤ 16 → Brief w → length w ≤ 32 → Brief (v ++ w)
brief_append v w a few b less = record { plain = plain_append v w a.plain b.plain; short = omega (arith, length-append v w) }

header_brief : (h : Header) → Brief (header_text h) × (length (header_text h) ≤ 32)
unfolding newline_free
header_brief header.Link = (brief (codes "link header") refl (omega arith), omega arith)
header_brief header.Tag = (brief (codes "VLAN tag") refl (omega arith), omega arith)
header_brief header.Session = (brief (codes "PPPoE header") refl (omega arith), omega arith)
header_brief header.Label = (brief (codes "MPLS label") refl (omega arith), omega arith)
header_brief header.Datagram = (brief (codes "IP header") refl (omega arith), omega arith)

decimal_short : (n : ℕ) → n < 18446744073709551616 → length (decimal n) ≤ 20
decimal_short n small =
    let wide : n < 10 ^ 20 = omega arith in
    length-decimal-le 20 n (omega arith) wide (omega arith)

decimal_brief : (n : ℕ) → n < 18446744073709551616 → Brief (decimal n)
decimal_brief n small = let few = decimal_short n small in record { plain = plain_decimal n small; short = omega arith }

reason_brief : (why : Skipped) → ((n : ℕ) → why ≡ UnknownLink n → n < 18446744073709551616) → Brief (reason_text why)
unfolding newline_free
reason_brief (UnknownLink n) small =
    let few = decimal_short n (small n refl) in
    brief_append (codes "link type ") (decimal n) (brief (codes "link type ") refl (omega arith)) (omega arith) (decimal_brief n (small n refl)) (omega arith)
reason_brief NotIp small = brief (codes "not IP") refl (omega arith)
reason_brief Version small = brief (codes "IP version") refl (omega arith)
reason_brief NotSession small = brief (codes "not PPPoE data") refl (omega arith)
reason_brief (Short h) small = let part = header_brief h in brief_append (codes "ends in ") (header_text h) (brief (codes "ends in ") refl (omega arith)) (omega arith) (part.0) (part.1)
reason_brief (Cut h) small = let part = header_brief h in brief_append (codes "cut in ") (header_text h) (brief (codes "cut in ") refl (omega arith)) (omega arith) (part.0) (part.1)

-- ---- a remark says nothing

remark_plain : (number : ℕ) (text : List ℕ) → number < 18446744073709551616 → NoNewline text → NoNewline (remark number text)
unfolding newline_free
remark_plain number text small plain =
    plain_append (codes "# packet " ++ decimal number) (32 ∷ text) (plain_append (codes "# packet ") (decimal number) (plain_by (codes "# packet ") refl) (plain_decimal number small)) (refl, plain)

remark_short : (number : ℕ) (text : List ℕ) → number < 18446744073709551616 → length text ≤ 64 → length (remark number text) ≤ 131200
remark_short number text small few =
    let digits = decimal_short number small in
    omega (arith, length-append (codes "# packet " ++ decimal number) (32 ∷ text), length-append (codes "# packet ") (decimal number))

remark_back : (n number : ℕ) (text : List ℕ) → length (remark number text) ≤ 131200 → stored_line n (remark number text) ≡ Ok None
unfolding stored_line words_of says_something
remark_back n number text short = rw (le-ltb 131200 (length (remark number text)) short) refl

-- ---- a datagram is said

-- ---- each line

said : Result Stored PassedOver → Option Stored
said (Ok s) = Some s
said (Err why) = None

record Says (number : ℕ) (line : List ℕ) (stored : Result Stored PassedOver) : Type 0 where
  plain : NoNewline line
  back : stored_line number line ≡ Ok (said stored)

remark_says : (number : ℕ) (text : List ℕ) (why : PassedOver) → number < 18446744073709551616 → Brief text → Says number (remark number text) (Err why)
unfolding said
remark_says number text why small few = record { plain = remark_plain number text small few.plain; back = remark_back number number text (remark_short number text small few.short) }

datagram_says : (number seconds : ℕ) (d : Datagram) → seconds < 18446744074 → IsFound d → Says number (decimal seconds ++ 32 ∷ hex_of (judged_bytes d)) (Ok (record { number = number; time = seconds; bytes = judged_bytes d }))
unfolding said
datagram_says number seconds d low found =
    let some = found.some in
    let size = length-take 65575 (d.bytes ++ d.behind) in
    let bytes = by_places (judged_bytes d) (All-take IsByte 65575 (d.bytes ++ d.behind) found.bytes) in
    record { plain = stored_plain seconds (judged_bytes d) low bytes; back = stored_back number seconds (judged_bytes d) low (omega arith) (omega arith) bytes }

in_seconds : (t : ℕ) → t < 18446744073709551616 → t / 1000000000 < 18446744074
in_seconds t small = omega arith

says_by : (number : ℕ) (time : Option ℕ) (r : Result Datagram Skipped) → number < 18446744073709551616 → ((n : ℕ) → r ≡ Err (UnknownLink n) → n < 18446744073709551616)
    → ((t : ℕ) → time ≡ Some t → t < 18446744073709551616) → ((d : Datagram) → r ≡ Ok d → IsFound d) → Says number (line_by number time r) (captured_by number time r)
unfolding newline_free
says_by number None (Err why) small link low found = remark_says number (reason_text why) _ small (reason_brief why (λ n e. link n (ap Err e)))
says_by number (Some t) (Err why) small link low found = remark_says number (reason_text why) _ small (reason_brief why (λ n e. link n (ap Err e)))
says_by number None (Ok d) small link low found = remark_says number (codes "no time") _ small (brief (codes "no time") refl (omega arith))
says_by number (Some t) (Ok d) small link low found = datagram_says number (t / 1000000000) d (in_seconds t (low t refl)) (found d refl)

line_says : (p : CapturePacket) → IsSeen p → Says p.number (packet_line p) (captured_of_packet p)
unfolding packet_line
line_says p seen = says_by p.number p.frame.time (frame_datagram p.frame) seen.number (λ n e. rw (link_number p.frame n e) seen.link) seen.time (λ d e. is_found p.frame d seen.bytes e)

-- ---- all lines

said_before : (n : ℕ) (stored : Result Stored PassedOver) (others : List Stored) → by_line n (Ok (said stored)) (record { stored = others; fault = None }) ≡ record { stored = stored_before stored others; fault = None }
unfolding said
said_before n (Ok s) others = refl
said_before n (Err why) others = refl

lines_are : (p : CapturePacket) (ps : List CapturePacket) → NoNewline (packet_line p) → lines_of (packet_lines (p ∷ ps)) ≡ packet_line p ∷ lines_of (packet_lines ps)
lines_are p ps plain = ap lines_of (append_assoc (packet_line p) (10 ∷ []) (packet_lines ps)) ∙ lines_of-line (packet_line p) plain (packet_lines ps)

all_back : (packets : List CapturePacket) (n : ℕ) → AreSeen n packets → stored_from n (lines_of (packet_lines packets)) ≡ record { stored = all_captured packets; fault = None }
unfolding lines_of
all_back [] n seen = refl
all_back (p ∷ ps) n seen =
    let says = line_says p (seen.1) in
    let back : stored_line n (packet_line p) ≡ Ok (said (captured_of_packet p)) = ap (λ m. stored_line m (packet_line p)) (sym (seen.0)) ∙ says.back in
    ap (stored_from n) (lines_are p ps says.plain)
    ∙ (ap (λ r. by_line n r (stored_from (n + 1) (lines_of (packet_lines ps)))) back
    ∙ (ap (by_line n (Ok (said (captured_of_packet p)))) (all_back ps (n + 1) (seen.2))
    ∙ said_before n (captured_of_packet p) (all_captured ps)))

pub lines_judged : (packets : List CapturePacket) → AreSeen 1 packets → stored_input (packet_lines packets) ≡ record { stored = all_captured packets; fault = None }
unfolding stored_input
lines_judged packets seen = all_back packets 1 seen

-- what is judged is what packets have, with its header checksums
pub lines_mended : (packets : List CapturePacket) → all_stored packets ≡ map mended_of (all_captured packets)
lines_mended [] = refl
lines_mended (p ∷ ps) = at (captured_of_packet p) (lines_mended ps)
  where
    at : (r : Result Stored PassedOver) → all_stored ps ≡ map mended_of (all_captured ps) → stored_before (judged_of r) (all_stored ps) ≡ map mended_of (stored_before r (all_captured ps))
    at (Ok s) e = ap (λ (l : List Stored). mended_of s ∷ l) e
    at (Err why) e = e
