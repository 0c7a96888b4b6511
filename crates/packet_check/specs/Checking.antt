-- One packet, checked, as the machine does it (own).
use Rattle.std.specs.Prelude.{◌≡◌, ℕ, List, [], ◌∷◌, ◌++◌, Result, Ok, Err}
use Rattle.book_base.specs.declared.address.Pair.{Pair}
use Rattle.book_keys.specs.Rows.{Table}
use Rattle.book_lines.specs.Texts.{spaced}
use Rattle.book_captures.specs.Captures.{CapturePacket}
use Rattle.book_cmd_check.specs.Captures.{Connection, Stored}
use Rattle.book_sessions.specs.declared.outcome.PassedOver.{PassedOver}
use Rattle.book_sessions.specs.Sessions.{stored_of_packet}
use Rattle.book_sessions.specs.declared.class.PacketClass.{PacketClass}
use Rattle.book_sessions.specs.CheckedLines.{checked_line, content_texts}
use Rattle.book_sessions.specs.CheckedPackets.{CheckedContent, checked_content, checked_packet}
use Rattle.book_sessions.specs.CheckedPackets.{class_of, held_after}
use Rattle.capture_check.specs.declared.flows.Flows.{Flows}
use Rattle.capture_check.specs.Checkers.{StandsFor}
use Rattle.packet_check.specs.declared.shown.StoredBytes.{StoredBytes}

-- what a packet of this number has
abbrev pub stored_as : ℕ → Result StoredBytes PassedOver → Result Stored PassedOver
stored_as n (Ok s) = Ok (record { number = n; time = s.time; bytes = s.bytes.now })
stored_as n (Err why) = Err why

-- the words for what a packet has were put behind a text, and it counts as this
pub record SaysContent (tables : List Table) (content : CheckedContent) (before now : List ℕ)
    (class : PacketClass) : Type 0 where
  pub text : now ≡ before ++ (spaced (content_texts content) ++ 10 ∷ [])
  pub class_is : class ≡ class_of tables content

-- what is judged of a packet was checked where these connections were held: the checker knows those
-- that are held afterwards
pub record ChecksAs (tables : List Table) (held : List Connection)
    (judged : Result Stored PassedOver) (entries : List (Pair × Flows)) (before now : List ℕ)
    (class : PacketClass) : Type 0 where
  pub stands : StandsFor entries (held_after tables held judged)
  pub says : SaysContent tables (checked_content tables held judged) before now class

-- a packet was checked where these connections were held
pub record ChecksPacket (tables : List Table) (held : List Connection) (p : CapturePacket)
    (entries : List (Pair × Flows)) (line : List ℕ) (class : PacketClass) : Type 0 where
  pub stands : StandsFor entries (held_after tables held (stored_of_packet p))
  pub line_is : line ≡ checked_line (checked_packet tables held p)
  pub class_is : class ≡ class_of tables (checked_packet tables held p).content
