-- Changes as text. Our own format. Its top is `passing_lines`.
use Rattle.std.specs.Prelude.{ℕ, Bool, not, List, [], ◌∷◌, ◌++◌, codes}
use Rattle.std.specs.Prelude.{Option, Some, None, decimal, if◌then◌else◌}
use Rattle.std.specs.List.{flat_map}
use Rattle.book_base.specs.Algorithms.{name_of}
use Rattle.book_keys.specs.Rows.{Table}
use Rattle.book_lines.specs.Texts.{line_text}
use Rattle.book_why.specs.declared.change.Change.{Change}
use Rattle.book_why.specs.declared.change.Change.TheVariants.{AnotherRow, OtherFlag}
use Rattle.book_why.specs.declared.change.Change.TheVariants.{OtherAlgorithm, KeyAsText}
use Rattle.book_why.specs.declared.change.Change.TheVariants.{CutSha256, KeyTrimmed}
use Rattle.book_why.specs.declared.change.Change.TheVariants.{OtherConnection}
use Rattle.book_why.specs.declared.change.IsnPair.{IsnPair}
use Rattle.book_why.specs.declared.change.Change.TheVariants.{KeyAsUpperText, KeyWithNewline}
use Rattle.book_why.specs.declared.change.Change.TheVariants.{KeyAsTextWithNewline, KeyPadded}
use Rattle.book_why.specs.declared.change.Change.TheVariants.{LengthInBytes}
use Rattle.book_why.specs.declared.change.Change.TheVariants.{OtherDirection, SocketsExchanged}
use Rattle.book_why.specs.declared.change.Change.TheVariants.{IsnsExchanged, NoDestinationIsn}
use Rattle.book_why.specs.declared.change.Change.TheVariants.{LapMore, LapLess, ChecksumKept}
use Rattle.book_why.specs.declared.change.Change.TheVariants.{MacKept, LastBytes, NoPseudoHeader}
use Rattle.book_why.specs.Changes.{BothTables, table_at, would_pass}
use Rattle.book_why.specs.Recipes.{Suspect}

-- whether the MAC covers the options (RFC 5925, section 5.1)
abbrev pub options_text : Bool → List ℕ
options_text with_options = if with_options then codes "options" else codes "no-options"

-- the name of a node; a question mark where there is none (own)
abbrev pub node_name : Option Table → List ℕ
node_name None = codes "?"
node_name (Some t) = t.name

-- the name of a change (own)
abbrev pub change_name : Change → List ℕ
change_name (AnotherRow node n) = codes "another row:"
change_name OtherFlag = codes "the other option flag:"
change_name (OtherAlgorithm algorithm) = codes "the other algorithm:"
change_name CutSha256 = codes "the other algorithm: HMAC-SHA-256 cut to 96 bits"
change_name KeyAsText = codes "the key's hexadecimal digits as the key"
change_name KeyAsUpperText = codes "the key's hexadecimal digits in upper case as the key"
change_name KeyWithNewline = codes "a newline behind the key"
change_name KeyAsTextWithNewline = codes "the key's hexadecimal digits and a newline as the key"
change_name (KeyPadded n) = codes "the key filled with zeros to"
change_name KeyTrimmed = codes "the key without the zeros at its end"
change_name LengthInBytes = codes "the output length in bytes"
change_name OtherDirection = codes "source and destination exchanged in the context"
change_name SocketsExchanged = codes "the sockets alone exchanged in the context"
change_name IsnsExchanged = codes "the initial sequence numbers exchanged in the context"
change_name NoDestinationIsn = codes "a destination's initial sequence number of 0 in the context"
change_name (OtherConnection isns) =
    codes "the initial sequence numbers of another connection on these sockets:"
change_name LapMore = codes "the extension one more"
change_name LapLess = codes "the extension one less"
change_name ChecksumKept = codes "the checksum not zeroed in the MAC's input"
change_name MacKept = codes "the MAC not zeroed in the MAC's input"
change_name LastBytes = codes "the last bytes of the MAC in place of the first"
change_name NoPseudoHeader = codes "no pseudo-header in the MAC's input"

-- what a change names, as texts: a row of a node, a flag, an algorithm, a number of bytes, the
-- initial sequence numbers of source and destination (own)
abbrev pub change_details : BothTables → Suspect → Change → List (List ℕ)
change_details both s (AnotherRow node n) =
    codes "row" ∷ decimal n ∷ codes "of" ∷ node_name (table_at both node) ∷ []
change_details both s OtherFlag = options_text (not s.row.with_options) ∷ []
change_details both s (OtherAlgorithm algorithm) = name_of algorithm ∷ []
change_details both s (KeyPadded n) = decimal n ∷ codes "bytes" ∷ []
change_details both s (OtherConnection isns) =
    decimal isns.source_isn ∷ decimal isns.destination_isn ∷ []
change_details both s _ = []

-- the line of a change under which the MAC is right (own)
unfoldable pub passing_line : BothTables → Suspect → Change → List ℕ
passing_line both s change =
    line_text (codes "would pass with" ∷ change_name change ∷ change_details both s change)

-- the lines of the changes under which the MAC is right (own)
abbrev pub lines_of_passing : BothTables → Suspect → List Change → List ℕ
lines_of_passing both s [] = codes "no single change makes it pass" ++ 10 ∷ []
lines_of_passing both s (c ∷ cs) = flat_map (passing_line both s) (c ∷ cs)

-- the changes under which the MAC of a segment is right, as lines (own)
abbrev pub passing_lines : BothTables → (others : List IsnPair) → Suspect → List ℕ
passing_lines both others s = lines_of_passing both s (would_pass both others s)
