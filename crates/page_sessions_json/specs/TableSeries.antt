-- The tables of a capture that are written while it is read, in front of packets, and the last one
-- at its end. Our own format. Its top is `series_text`.
use Rattle.std.specs.Prelude.{ℕ, ◌+◌, ◌/◌, nat_le, Bool, false, List, [], ◌∷◌, ◌++◌, codes}
use Rattle.std.specs.Prelude.{Option, Some, None, option_map, if◌then◌else◌}
use Rattle.toml.specs.Data.{Members}
use Rattle.book_captures.specs.Captures.{CapturePacket}
use Rattle.book_cmd_check.specs.declared.given.GivenIsns.{GivenIsns}
use Rattle.book_scope_plan.specs.AdminNames.{KeyFile}
use Rattle.book_lines.specs.Texts.{line_text}
use Rattle.book_scope_texts.specs.Instants.{instant_text}
use Rattle.book_sessions.specs.Laps.{Judging}
use Rattle.book_sessions.specs.Sessions.{SessionTable, sessions_of}
use Rattle.page_sessions_json.specs.declared.form.TableForm.{TableForm}
use Rattle.page_sessions_json.specs.declared.form.TableForm.TheVariants.{Lines, Json}
use Rattle.page_sessions_json.specs.declared.form.TableRequest.{TableRequest}
use Rattle.page_sessions_json.specs.Forms.{written_as}

-- the tables that are asked for of a capture, and how it is judged, as behind handshakes with the
-- given initial sequence numbers; and the document that the key file is (own)
pub record Series : Type 0 where
  pub document : Members
  pub judging : Judging
  pub given : List GivenIsns
  pub request : TableRequest

-- the key file by which a capture is judged (own)
abbrev pub series_keys : Series → KeyFile
series_keys s = record { document = s.document; tables = s.judging.tables }

-- the second at which a packet was seen, since 1970, if the capture says it (own)
abbrev pub second_seen : CapturePacket → Option ℕ
second_seen p = option_map (λ nanoseconds. nanoseconds / 1000000000) p.frame.time

-- a table is due now: so many seconds have gone by since the last one, or since the first packet
-- (own)
abbrev pub is_table_due : (every since now : Option ℕ) → Bool
is_table_due None since now = false
is_table_due (Some every) None now = false
is_table_due (Some every) (Some since) None = false
is_table_due (Some every) (Some since) (Some now) = nat_le (since + every) now

-- since when the seconds are counted behind a packet that was seen now: since the first packet, and
-- then since the last table (own)
abbrev pub counted_since : (every since now : Option ℕ) → Option ℕ
counted_since every since None = since
counted_since every None (Some now) = Some now
counted_since every (Some since) (Some now) =
    if is_table_due every (Some since) (Some now) then Some now else Some since

-- the line that ends a table that isn't the last one: when the packet behind it was seen. A table
-- in JSON is a line itself, and has none (own)
abbrev pub time_line : TableForm → (now : Option ℕ) → List ℕ
time_line Json now = []
time_line Lines None = []
time_line Lines (Some now) = line_text (codes "at" ∷ instant_text now ∷ [])

-- the table, if one is due (own)
abbrev pub due_table : TableRequest → KeyFile → SessionTable → (since now : Option ℕ) → List ℕ
due_table request keys t since now = if is_table_due request.every since now
    then written_as request keys t ++ time_line request.form now else []

-- the table of these packets, if one is due (own)
abbrev pub due_text : Series → List CapturePacket → (since now : Option ℕ) → List ℕ
due_text s before since now =
    due_table s.request (series_keys s) (sessions_of s.judging s.given before) since now

-- the tables that are due in front of these packets, behind those before (own)
abbrev pub due_texts :
    Series → (before : List CapturePacket) → Option ℕ → (packets : List CapturePacket) → List ℕ
due_texts s before since [] = []
due_texts s before since (p ∷ ps) = due_text s before since (second_seen p)
    ++ due_texts s (before ++ p ∷ []) (counted_since s.request.every since (second_seen p)) ps

-- all tables that are due in front of a packet (own)
unfoldable pub early_text : Series → List CapturePacket → List ℕ
early_text s packets = due_texts s [] None packets

-- what is written at the end, by the text of a table (own)
abbrev pub last_text : (KeyFile → SessionTable → List ℕ) → Series → List CapturePacket → List ℕ
last_text text s packets = text (series_keys s) (sessions_of s.judging s.given packets)

-- all tables that are due in front of a packet, and what is written at the end (own)
abbrev pub series_text : (KeyFile → SessionTable → List ℕ) → Series → List CapturePacket → List ℕ
series_text text s packets = early_text s packets ++ last_text text s packets
