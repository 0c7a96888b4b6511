-- Single changes of how the MAC of a segment is made, each by its name in one table, and under
-- which of them it would be right (own). Its tops: `changed`, `all_changes` and `would_pass`.
use Rattle.std.specs.Prelude.{ℕ, ◌+◌, ◌-◌, ◌==◌, nat_le, Bool, true, false, not}
use Rattle.std.specs.Prelude.{List, [], ◌∷◌, ◌++◌, length, replicate, filter, map}
use Rattle.std.specs.Prelude.{Option, Some, None, slice_index_or, if◌then◌else◌}
use Rattle.book_base.specs.declared.algorithm.Algorithm.TheVariants.{HmacSha1, AesCmac, HmacSha256}
use Rattle.book_base.specs.Hexadecimal.{hex_of}
use Rattle.book_segments.specs.Bytes.{ring, same_bytes}
use Rattle.book_keys.specs.Rows.{Row, Table}
use Rattle.book_macs.specs.Keys.{key_length}
use Rattle.book_why.specs.declared.change.Change.{Change}
use Rattle.book_why.specs.declared.change.Change.TheVariants.{AnotherRow, OtherFlag}
use Rattle.book_why.specs.declared.change.Change.TheVariants.{OtherAlgorithm, KeyAsText}
use Rattle.book_why.specs.declared.change.Change.TheVariants.{CutSha256, KeyTrimmed}
use Rattle.book_why.specs.declared.change.Change.TheVariants.{OtherConnection}
use Rattle.book_why.specs.declared.change.Change.TheVariants.{KeyAsUpperText, KeyWithNewline}
use Rattle.book_why.specs.declared.change.Change.TheVariants.{KeyAsTextWithNewline, KeyPadded}
use Rattle.book_why.specs.declared.change.Change.TheVariants.{LengthInBytes}
use Rattle.book_why.specs.declared.change.Change.TheVariants.{OtherDirection, SocketsExchanged}
use Rattle.book_why.specs.declared.change.Change.TheVariants.{IsnsExchanged, NoDestinationIsn}
use Rattle.book_why.specs.declared.change.Change.TheVariants.{LapMore, LapLess, ChecksumKept}
use Rattle.book_why.specs.declared.change.Change.TheVariants.{MacKept, LastBytes, NoPseudoHeader}
use Rattle.book_why.specs.declared.change.IsnPair.{IsnPair}
use Rattle.book_why.specs.declared.change.MacPart.TheVariants.{Last}
use Rattle.book_why.specs.declared.change.SegmentNode.{SegmentNode}
use Rattle.book_why.specs.declared.change.SegmentNode.TheVariants.{Receiver, Sender}
use Rattle.book_why.specs.Recipes.{Recipe, Suspect, MacChoices, right_choices, recipe_by, recipe_of}
use Rattle.book_why.specs.Recipes.{mac_made}

-- the tables of the two nodes of a segment; the sender may be no node (own)
pub record BothTables : Type 0 where
  pub receiver : Table
  pub sender : Option Table

-- the table of one of the two nodes (own)
abbrev pub table_at : BothTables → SegmentNode → Option Table
table_at both Receiver = Some both.receiver
table_at both Sender = both.sender

-- the rows of a table, if it is there (own)
abbrev pub rows_there : Option Table → List Row
rows_there None = []
rows_there (Some t) = t.rows

-- a hexadecimal digit in upper case (own)
abbrev pub upper_digit : ℕ → ℕ
upper_digit digit = if nat_le 97 digit then digit - 32 else digit

-- bytes, filled with zeros to so many (own)
abbrev pub padded_to : ℕ → List ℕ → List ℕ
padded_to n bytes = bytes ++ replicate (n - length bytes) 0

-- a byte in front of others; a zero in front of none goes with them (own)
abbrev pub unless_last_zero : ℕ → List ℕ → List ℕ
unless_last_zero byte [] = if byte == 0 then [] else byte ∷ []
unless_last_zero byte (b ∷ bs) = byte ∷ b ∷ bs

-- bytes without the zeros at their end (own)
unfoldable pub without_zeros : List ℕ → List ℕ
without_zeros [] = []
without_zeros (b ∷ bs) = unless_last_zero b (without_zeros bs)

-- the choices that follow where one of them is changed so (own)
abbrev pub changed_choices : Change → BothTables → Suspect → MacChoices → MacChoices
changed_choices (AnotherRow node n) both s m =
    right_choices (slice_index_or (rows_there (table_at both node)) (n - 1) s.row) s
changed_choices OtherFlag both s m = record m { with_options = not m.with_options }
changed_choices (OtherAlgorithm algorithm) both s m =
    right_choices (record (s.row) { algorithm = algorithm }) s
changed_choices CutSha256 both s m =
    record (right_choices (record (s.row) { algorithm = HmacSha256 }) s) { cut = true }
changed_choices KeyAsText both s m = record m { master = hex_of m.master }
changed_choices KeyAsUpperText both s m = record m { master = map upper_digit (hex_of m.master) }
changed_choices KeyWithNewline both s m = record m { master = m.master ++ 10 ∷ [] }
changed_choices KeyAsTextWithNewline both s m =
    record m { master = hex_of m.master ++ 10 ∷ [] }
changed_choices (KeyPadded n) both s m = record m { master = padded_to n m.master }
changed_choices KeyTrimmed both s m = record m { master = without_zeros m.master }
changed_choices LengthInBytes both s m = record m { output_length = key_length m.algorithm }
changed_choices OtherDirection both s m = record m {
  source = m.destination;
  destination = m.source;
  source_isn = m.destination_isn;
  destination_isn = m.source_isn;
}
changed_choices SocketsExchanged both s m =
    record m { source = m.destination; destination = m.source }
changed_choices IsnsExchanged both s m =
    record m { source_isn = m.destination_isn; destination_isn = m.source_isn }
changed_choices NoDestinationIsn both s m = record m { destination_isn = 0 }
changed_choices (OtherConnection isns) both s m =
    record m { source_isn = isns.source_isn; destination_isn = isns.destination_isn }
changed_choices LapMore both s m = record m { extension = m.extension + 1 }
changed_choices LapLess both s m = record m { extension = m.extension + (ring - 1) }
changed_choices ChecksumKept both s m = record m { checksum = s.segment.checksum }
changed_choices MacKept both s m = record m { mac_bytes = mac_made (recipe_of s) }
changed_choices LastBytes both s m = record m { part = Last }
changed_choices NoPseudoHeader both s m = record m { pseudo_header = false }

-- the recipe of a segment under a single change (own)
abbrev pub changed : Change → BothTables → Suspect → Recipe
changed change both s =
    recipe_by (changed_choices change both s (right_choices s.row s)) s.segment s.ao

-- the changes that name neither a row nor a connection, in the order in which they are told (own)
abbrev pub rowless_changes : List Change
rowless_changes =
    OtherFlag ∷ OtherAlgorithm HmacSha1 ∷ OtherAlgorithm AesCmac ∷ OtherAlgorithm HmacSha256
    ∷ CutSha256
    ∷ KeyAsText ∷ KeyAsUpperText ∷ KeyWithNewline ∷ KeyAsTextWithNewline
    ∷ KeyPadded 16 ∷ KeyPadded 20 ∷ KeyPadded 32 ∷ KeyPadded 64 ∷ KeyPadded 80
    ∷ KeyTrimmed
    ∷ LengthInBytes ∷ OtherDirection ∷ SocketsExchanged ∷ IsnsExchanged ∷ NoDestinationIsn
    ∷ LapMore ∷ LapLess ∷ ChecksumKept ∷ MacKept ∷ LastBytes ∷ NoPseudoHeader ∷ []

-- the changes to a row of a node, of which the first one has number n (own)
abbrev pub row_changes : SegmentNode → ℕ → List Row → List Change
row_changes node n [] = []
row_changes node n (r ∷ rs) = AnotherRow node n ∷ row_changes node (n + 1) rs

-- the table of all changes: to each row of either node, those that name neither a row nor a
-- connection, and to the initial sequence numbers of each other connection on the sockets (own)
abbrev pub all_changes : BothTables → (others : List IsnPair) → List Change
all_changes both others =
    row_changes Receiver 1 both.receiver.rows
    ++ (row_changes Sender 1 (rows_there both.sender)
    ++ (rowless_changes ++ map OtherConnection others))

-- the MAC of a segment is right under a change (RFC 5925, section 7.5)
abbrev pub passes_changed : BothTables → Suspect → Change → Bool
passes_changed both s change = same_bytes s.ao.mac (mac_made (changed change both s))

-- the changes under which the MAC of a segment is right, where other connections on its sockets had
-- these initial sequence numbers (own)
abbrev pub would_pass : BothTables → (others : List IsnPair) → Suspect → List Change
would_pass both others s = filter (passes_changed both s) (all_changes both others)
