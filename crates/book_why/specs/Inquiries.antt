-- Why the check says what it says of a segment, as lines. Our own format. Its top is
-- `why_lines`.
use Rattle.std.specs.Prelude.{ℕ, Bool, List, [], ◌∷◌, ◌++◌, length, codes, decimal}
use Rattle.std.specs.Prelude.{Option, Some, None, option_map, Result, Ok, Err}
use Rattle.toml.specs.Data.{Members}
use Rattle.book_base.specs.Algorithms.{mac_length_of}
use Rattle.book_segments.specs.Options.{Ao, plains, listed, options_of}
use Rattle.book_segments.specs.Segments.{Segment, segment_length, pair_reached}
use Rattle.book_keys.specs.Rows.{Table}
use Rattle.book_keys.specs.Choices.{Numbered}
use Rattle.book_endpoint.specs.States.{number_limit}
use Rattle.book_endpoint.specs.declared.refusal.Refusal.{Refusal}
use Rattle.book_endpoint.specs.declared.refusal.Refusal.TheVariants.{NoAo, TwoAo, WithMd5}
use Rattle.book_endpoint.specs.declared.refusal.Refusal.TheVariants.{NoTuple, Expired, MacLength}
use Rattle.book_endpoint.specs.declared.refusal.Refusal.TheVariants.{NoContext, Range, BadMac}
use Rattle.book_endpoint.specs.Verdicts.{Judgement}
use Rattle.book_lines.specs.Texts.{line_text}
use Rattle.book_cmd_check.specs.DatagramTexts.{options_texts}
use Rattle.book_cmd_check.specs.Captures.{Saying, Unreadable, UnknownNode, Judged}
use Rattle.book_cmd_check.specs.Captures.{TooManyConnections, most_connections}
use Rattle.book_why.specs.declared.change.IsnPair.{IsnPair}
use Rattle.book_why.specs.Changes.{BothTables}
use Rattle.book_why.specs.ChangeTexts.{passing_lines}
use Rattle.book_why.specs.Recipes.{Suspect}
use Rattle.book_why.specs.Lacks.{lacks, row_shown_line, rows_and_lacks}
use Rattle.book_why.specs.MacTexts.{mac_lines}
use Rattle.book_why.specs.Sights.{Sight, ao_at, isns_at, known_at, number_at, row_at}
use Rattle.book_why.specs.Sights.{suspect_at}

-- what an answer speaks of: what the check goes by at a segment, the table of the node that it
-- comes from, if it is one, the initial sequence numbers of other connections on its sockets, the
-- document that the key file is, and whether the traffic key is asked for (own)
pub record Inquiry : Type 0 where
  pub sight : Sight
  pub sender : Option Table
  pub others : List IsnPair
  pub document : Members
  pub with_key : Bool

-- what is written of a value, where it was found (own)
abbrev pub if_found : {V F : Type 0} → (V → List ℕ) → Result V F → List ℕ
if_found text (Ok v) = text v
if_found text (Err why) = []

-- the line of the options of a segment (RFC 9293, section 3.2)
abbrev pub options_line : Segment → List ℕ
options_line d = line_text (codes "options" ∷ options_texts (plains (listed (options_of d.area))))

-- the line of the row that takes a segment (RFC 7210, section 2)
abbrev pub row_taking_line : Inquiry → List ℕ
row_taking_line q = if_found (row_shown_line q.document q.sight.table) (row_at q.sight)

-- the line of a node: its name, and how many rows it has (own)
abbrev pub node_line : Table → List ℕ
node_line t =
    line_text (codes "node" ∷ t.name ∷ codes "rows" ∷ decimal (length t.rows) ∷ [])

-- the lines of each row of a node, with what it lacks to take a segment with this option (RFC 5925,
-- section 7.5)
abbrev pub lacking_lines : Inquiry → Ao → List ℕ
lacking_lines q ao =
    rows_and_lacks q.document q.sight.table
    (lacks (pair_reached q.sight.segment) ao.key_id q.sight.now) 1 q.sight.table.rows

-- the line of the length of a MAC, and of that which the row's algorithm makes (RFC 5926, section
-- 3.2)
abbrev pub length_line : Ao → Numbered → List ℕ
length_line ao n =
    codes "mac of " ++ (decimal (length ao.mac) ++ (codes " bytes, the row's has "
    ++ (decimal (mac_length_of n.row.algorithm) ++ 10 ∷ [])))

-- the line of both lengths, where the option and the row are found (own)
abbrev pub lengths_line : Inquiry → Ao → List ℕ
lengths_line q ao = if_found (length_line ao) (row_at q.sight)

-- that both initial sequence numbers aren't known (RFC 5925, section 5.2)
abbrev pub no_handshake_line : List ℕ
no_handshake_line = codes "no handshake of these sockets passed before it\n"

-- the line of the initial sequence numbers in the context, where they are known (RFC 5925, section
-- 5.2)
abbrev pub isns_line : Option IsnPair → List ℕ
isns_line None = []
isns_line (Some isns) =
    line_text (codes "isns" ∷ codes "source" ∷ decimal isns.source_isn
    ∷ codes "destination" ∷ decimal isns.destination_isn ∷ [])

-- a number, or a hyphen where there is none (own)
abbrev pub number_or_hyphen : Option ℕ → List ℕ
number_or_hyphen None = codes "-"
number_or_hyphen (Some n) = decimal n

-- the line of the number of a segment, none where it is below 0, of the number expected next, none
-- at a SYN, and of the segment's length (RFC 5925, section 6.2)
abbrev pub number_line : Sight → List ℕ
number_line s =
    line_text (codes "number" ∷ number_or_hyphen (number_at s)
    ∷ codes "expected" ∷ number_or_hyphen (known_at s).expected
    ∷ codes "length" ∷ decimal (segment_length s.segment) ∷ [])

-- the line of the number at which a segment ends at the latest (own)
abbrev pub limit_line : List ℕ
limit_line = line_text (codes "numbers" ∷ codes "end" ∷ codes "at" ∷ decimal number_limit ∷ [])

-- that the number of a segment is below 0, and what tries greater ones (own)
abbrev pub below_line : List ℕ
below_line = codes "the number is below 0: aoscope sessions --laps N tries later laps\n"

-- why a segment is out of range, of its number, where that isn't below 0 (own)
abbrev pub range_line : (number : Option ℕ) → List ℕ
range_line None = below_line
range_line (Some n) = limit_line

-- the lines of the row, of the initial sequence numbers and of the number (own)
abbrev pub values_lines : Inquiry → List ℕ
values_lines q =
    isns_line (isns_at q.sight) ++ (number_line q.sight ++ row_taking_line q)

-- the tables of the two nodes of a segment (own)
abbrev pub both_of : Inquiry → BothTables
both_of q = record { receiver = q.sight.table; sender = q.sender }

-- which single changes of how the MAC of a segment is made make the MAC that it has (own)
abbrev pub changes_lines : Inquiry → Suspect → List ℕ
changes_lines q s = passing_lines (both_of q) q.others s

-- how the MAC of a segment is made, and which single changes of that make the MAC that it has (RFC
-- 5925, section 7.5, and own)
abbrev pub wrong_mac_lines : Inquiry → Suspect → List ℕ
wrong_mac_lines q s = mac_lines q.with_key s ++ changes_lines q s

-- what decided that a segment is refused for this reason (RFC 5925, section 7.5)
abbrev pub refusal_lines : Inquiry → Refusal → List ℕ
refusal_lines q NoAo = options_line q.sight.segment
refusal_lines q TwoAo = options_line q.sight.segment
refusal_lines q WithMd5 = options_line q.sight.segment
refusal_lines q NoTuple =
    node_line q.sight.table ++ if_found (lacking_lines q) (ao_at q.sight)
refusal_lines q Expired =
    node_line q.sight.table ++ if_found (lacking_lines q) (ao_at q.sight)
refusal_lines q MacLength =
    row_taking_line q ++ (if_found (lengths_line q) (ao_at q.sight)
    ++ if_found (changes_lines q) (suspect_at q.sight))
refusal_lines q NoContext = row_taking_line q ++ no_handshake_line
refusal_lines q Range = values_lines q ++ range_line (number_at q.sight)
refusal_lines q BadMac = values_lines q ++ if_found (wrong_mac_lines q) (suspect_at q.sight)

-- what a segment passes with: its row, its number, and how its MAC is made (RFC 5925, section 7.5)
abbrev pub passing_values : Inquiry → List ℕ
passing_values q = values_lines q ++ if_found (mac_lines q.with_key) (suspect_at q.sight)

-- what decided what is said of a segment (own)
abbrev pub why_lines : Inquiry → Saying → List ℕ
why_lines q (Unreadable fault) = []
why_lines q UnknownNode = codes "source and destination are one socket\n"
why_lines q (Judged (Ok p) checksum) = passing_values q
why_lines q (Judged (Err why) checksum) = refusal_lines q why
why_lines q (TooManyConnections checksum) =
    codes "connections held " ++ (decimal most_connections ++ (10 ∷ passing_values q))
