-- Segments judged over laps of the sequence space: where a MAC is wrong, or a number out of range,
-- the extension is searched (RFC 5925, section 6.2, and own). Its top is `hear_over`.
use Rattle.std.specs.Prelude.{ℕ, ◌+◌, ◌*◌, nat_le, Bool, false, not, List, Option, Some, None}
use Rattle.std.specs.Prelude.{suc, zero, if◌then◌else◌, Err}
use Rattle.std.specs.Option.{option_or, unwrap_or}
use Rattle.book_segments.specs.Bytes.{ring}
use Rattle.book_segments.specs.Segments.{Segment, Read, has, SYN}
use Rattle.book_keys.specs.Rows.{Table}
use Rattle.book_endpoint.specs.States.{number_limit}
use Rattle.book_endpoint.specs.declared.refusal.Refusal.TheVariants.{BadMac, Range}
use Rattle.book_cmd_check.specs.Captures.{Connection, Heard, Saying, Judged, is_pass}
use Rattle.book_cmd_check.specs.Captures.{connection_between, expecting, with_connection, hear_read}

-- how a capture is judged: the tables of all nodes, and over how many laps the extension is
-- searched (own)
pub record Judging : Type 0 where
  pub tables : List Table
  pub laps : ℕ

-- the connections, where this number is expected of the first side of one (own)
abbrev pub with_expected : ℕ → Connection → List Connection → List Connection
with_expected n c held = with_connection (expecting n c) held

-- what is heard, where it is a pass (own)
abbrev pub if_pass : Heard → Option Heard
if_pass h = if is_pass h.saying then Some h else None

-- what is heard by the connections where so many laps more are expected of the first side of one,
-- if that is a pass; an extension has four bytes (RFC 5925, section 6.2)
abbrev pub heard_ahead :
    (List Connection → Heard) → List Connection → Connection → (laps : ℕ) → Option Heard
heard_ahead hear held c laps =
    if nat_le (c.one.expected + laps * ring) number_limit
    then if_pass (hear (with_expected (c.one.expected + laps * ring) c held))
    else None

-- the first of so many, from this number on (own)
abbrev pub first_from : (ℕ → Option Heard) → (many number : ℕ) → Option Heard
first_from heard zero number = None
first_from heard (suc more) number = option_or (heard number) (first_from heard more (suc number))

-- what is heard under the fewest laps more of a connection, up to so many (own)
abbrev pub heard_further :
    (List Connection → Heard) → (laps : ℕ) → List Connection → Option Connection → Option Heard
heard_further hear laps held None = None
heard_further hear laps held (Some c) = first_from (heard_ahead hear held c) laps 1

-- a segment is judged over more laps: it isn't a SYN, and as it stands its MAC is wrong, or its
-- number out of range, as one below 0 (own)
abbrev pub is_searched : Segment → Saying → Bool
is_searched d (Judged (Err BadMac) checksum) = not (has SYN d)
is_searched d (Judged (Err Range) checksum) = not (has SYN d)
is_searched d _ = false

-- what is heard of a segment by connections, as they are (own)
abbrev pub heard_by : Judging → (now : ℕ) → Segment → List Connection → Heard
heard_by j now d held = hear_read j.tables held now (Read d)

-- what is heard of a segment, by the connections as they are, or else with more laps (own)
unfoldable pub hear_over : Judging → List Connection → (now : ℕ) → Segment → Heard
hear_over j held now d = let h = heard_by j now d held in
    if is_searched d h.saying
    then unwrap_or (heard_further (heard_by j now d) j.laps held (connection_between d held)) h
    else h
