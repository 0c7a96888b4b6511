-- The line of a packet is read back.
use Rattle.std.proofs.Common.{◌≡◌, ℕ, ◌<◌, ◌≤◌, List, [], ◌∷◌, length, Option, Some, None, Ok, refl, arith}
use Rattle.hex.specs.Hex.{IsBytes}
use Rattle.book_base.specs.Lines.{words_of}
use Rattle.book_base.proofs.LineLaws.{NoNewline}
use Rattle.book_lines.specs.Lines.{says_something}
use Rattle.book_cmd_check.specs.Captures.{Stored}
use Rattle.book_cmd_check.specs.StoredLines.{stored_line}
use Rattle.law_pcap.specs.LineForms.{packet_line}
use Rattle.law_pcap.proofs.StoredWords.{stored_back, stored_plain}

-- no newline stands within the line of a packet
pub packet_line_plain : (seconds : ℕ) (bytes : List ℕ) → seconds < 4294967296 → IsBytes bytes → NoNewline (packet_line seconds bytes)
packet_line_plain seconds [] low small = (refl, tt)
packet_line_plain seconds (b ∷ bs) low small = stored_plain seconds (b ∷ bs) (omega arith) small

-- the stored segment of a packet; a packet without a datagram has none
abbrev pub shown : ℕ → ℕ → List ℕ → Option Stored
shown n seconds [] = None
shown n seconds (b ∷ bs) = Some (record { number = n; time = seconds; bytes = b ∷ bs })

-- a packet without a datagram has a line that says nothing
none_said : (n seconds : ℕ) → stored_line n (packet_line seconds []) ≡ Ok None
unfolding stored_line words_of says_something
none_said n seconds = refl

-- the line of a packet has the packet's segment
pub packet_line_back : (n seconds : ℕ) (bytes : List ℕ) → seconds < 4294967296 → length bytes ≤ 65575 → IsBytes bytes →
    stored_line n (packet_line seconds bytes) ≡ Ok (shown n seconds bytes)
packet_line_back n seconds [] low few small = none_said n seconds
packet_line_back n seconds (b ∷ bs) low few small = stored_back n seconds (b ∷ bs) (omega arith) (omega arith) few small
