-- The lines of a capture and of its sessions. Our own format. Its tops are `capture_line` and
-- `lines_of_session`.
use Rattle.std.specs.Prelude.{ℕ, zero, suc, ◌==◌, ◌&&◌, min, Bool, List, [], ◌∷◌}
use Rattle.std.specs.Prelude.{◌++◌, codes, decimal, Option, Some, None, if◌then◌else◌}
use Rattle.std.specs.List.{find, flat_map, list_any}
use Rattle.book_lines.specs.Texts.{line_text}
use Rattle.book_scope_texts.specs.Addresses.{usual_address_text}
use Rattle.book_scope_texts.specs.Instants.{instant_text}
use Rattle.book_sessions.specs.declared.uses.KeyUse.{KeyUse}
use Rattle.book_sessions.specs.declared.uses.Protection.{Protection}
use Rattle.book_sessions.specs.declared.uses.Protection.TheVariants as protection
use Rattle.book_sessions.specs.declared.uses.PassedCount.{PassedCount}
use Rattle.book_sessions.specs.OutcomeTexts.{outcome_text, passed_text, is_verified}
use Rattle.book_sessions.specs.Retiring.{latest_seen}

-- a KeyID, or a dash where there is none (own)
abbrev pub id_text : Option ℕ → List ℕ
id_text None = codes "-"
id_text (Some id) = decimal id

-- the earliest_seen of a time and of those at which segments were seen (own)
abbrev pub earliest_seen : ℕ → List KeyUse → ℕ
earliest_seen time [] = time
earliest_seen time (u ∷ us) = earliest_seen (min time u.first) us

-- from when to when segments were seen (own)
abbrev pub span_texts : List KeyUse → List (List ℕ)
span_texts [] = []
span_texts (u ∷ us) = codes "from" ∷ instant_text (earliest_seen u.first us)
    ∷ codes "to" ∷ instant_text (latest_seen u.last us) ∷ []

-- the line of a capture: of its packets, how many are segments and how many are none (own)
abbrev pub capture_line : (segments others : ℕ) → List KeyUse → List ℕ
capture_line segments others uses =
    line_text (codes "capture" ∷ codes "segments" ∷ decimal segments
    ∷ codes "other" ∷ decimal others ∷ span_texts uses)

-- these are of the session of this number (own)
abbrev pub is_of_session : ℕ → KeyUse → Bool
is_of_session number u = u.session == number

-- of these a SYN with ACK is verified, of the session of this number (RFC 5925, section 5.2)
abbrev pub opens_session : ℕ → KeyUse → Bool
opens_session number u = is_of_session number u && (u.opens && is_verified u.outcome)

-- whether the handshake of a session was seen (own)
abbrev pub seen_text : Bool → List ℕ
seen_text seen = if seen then codes "seen" else codes "not seen"

-- the line of a session, by the first segments of it; there is none without segments (own)
abbrev pub heading_line : (number : ℕ) → (handshake : Bool) → Option KeyUse → List ℕ
heading_line number handshake None = []
heading_line number handshake (Some u) =
    line_text (codes "session" ∷ decimal number
    ∷ usual_address_text u.source.address ∷ decimal u.source.port
    ∷ usual_address_text u.destination.address ∷ decimal u.destination.port
    ∷ codes "handshake" ∷ seen_text handshake ∷ [])

-- how segments are protected: under this KeyID, by TCP MD5, by neither, or by more than one option
-- (own)
abbrev pub protection_text : Protection → (key_id : Option ℕ) → List ℕ
protection_text protection.Ao id = codes "key " ++ id_text id
protection_text protection.Md5 id = codes "md5"
protection_text protection.Plain id = codes "plain"
protection_text protection.Unclear id = codes "key " ++ id_text None

-- the line of the segments of one direction with one KeyID, of which the same is said (own)
abbrev pub use_line : KeyUse → List ℕ
use_line u = line_text (codes " " ∷ usual_address_text u.source.address ∷ codes ">"
    ∷ usual_address_text u.destination.address ∷ protection_text u.protection u.key_id
    ∷ outcome_text u.outcome ∷ decimal u.segments ∷ codes "first" ∷ instant_text u.first
    ∷ codes "last" ∷ instant_text u.last ∷ codes "asks" ∷ id_text u.asked
    ∷ codes "packet" ∷ decimal u.packet ∷ [])

-- the same, if they are of the session of this number (own)
abbrev pub use_line_in : (number : ℕ) → KeyUse → List ℕ
use_line_in number u = if is_of_session number u then use_line u else []

-- the lines of the session of this number (own)
abbrev pub lines_of_session : List KeyUse → (number : ℕ) → List ℕ
lines_of_session uses number =
    heading_line number (list_any (opens_session number) uses) (find (is_of_session number) uses)
    ++ flat_map (use_line_in number) uses

-- the line of packets that are passed over for one reason (own)
abbrev pub passed_line : PassedCount → List ℕ
passed_line c = line_text (codes "other" ∷ decimal c.packets ∷ passed_text c.why ∷ [])

-- the line of segments whose header checksum isn't set, if there are some (own)
abbrev pub unset_line : ℕ → List ℕ
unset_line zero = []
unset_line (suc n) = line_text (codes "ip-checksum" ∷ decimal (suc n) ∷ [])
