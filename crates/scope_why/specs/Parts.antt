-- What a single change does to each part of the choices (own); nothing where it is of another part.
use Rattle.std.specs.Prelude.{ℕ, ◌+◌, ◌-◌, ◌/◌, List, [], ◌∷◌, ◌++◌, map, slice_index_or, not, true, false}
use Rattle.book_base.specs.declared.algorithm.Algorithm.TheVariants.{HmacSha256}
use Rattle.book_base.specs.Hexadecimal.{hex_of}
use Rattle.book_segments.specs.Bytes.{ring}
use Rattle.book_macs.specs.Keys.{key_length}
use Rattle.book_why.specs.declared.change.Change.{Change}
use Rattle.book_why.specs.declared.change.Change.TheVariants as change
use Rattle.book_why.specs.declared.change.MacPart.TheVariants.{Last}
use Rattle.book_why.specs.Changes.{BothTables, padded_to, rows_there, table_at, upper_digit}
use Rattle.book_why.specs.Changes.{without_zeros}
use Rattle.book_why.specs.Recipes.{MacChoices, Suspect, mac_made, recipe_of, right_choices}

-- the choices under another row or another algorithm
abbrev pub choices_under : Change → BothTables → Suspect → MacChoices
choices_under (change.AnotherRow node n) both s =
    right_choices (slice_index_or (rows_there (table_at both node)) (n - 1) s.row) s
choices_under (change.OtherAlgorithm algorithm) both s =
    right_choices (record (s.row) { algorithm = algorithm }) s
choices_under change.CutSha256 both s =
    record (right_choices (record (s.row) { algorithm = HmacSha256 }) s) { cut = true }
choices_under _ both s = right_choices s.row s

-- the master key under a change of it
abbrev pub master_under : Change → List ℕ → List ℕ
master_under change.KeyAsText key = hex_of key
master_under change.KeyAsUpperText key = map upper_digit (hex_of key)
master_under change.KeyWithNewline key = key ++ 10 ∷ []
master_under change.KeyAsTextWithNewline key = hex_of key ++ 10 ∷ []
master_under (change.KeyPadded n) key = padded_to n key
master_under change.KeyTrimmed key = without_zeros key
master_under _ key = key

-- the choices under a change of what else goes into the key derivation
abbrev pub derived_under : Change → MacChoices → MacChoices
derived_under change.LengthInBytes m = record m { output_length = key_length m.algorithm }
derived_under change.OtherDirection m = record m {
  source = m.destination;
  destination = m.source;
  source_isn = m.destination_isn;
  destination_isn = m.source_isn;
}
derived_under change.SocketsExchanged m =
    record m { source = m.destination; destination = m.source }
derived_under change.IsnsExchanged m =
    record m { source_isn = m.destination_isn; destination_isn = m.source_isn }
derived_under change.NoDestinationIsn m = record m { destination_isn = 0 }
derived_under (change.OtherConnection isns) m =
    record m { source_isn = isns.source_isn; destination_isn = isns.destination_isn }
derived_under _ m = m

-- the choices under a change of the MAC's input, or of which part of the MAC is sent
abbrev pub input_under : Change → Suspect → MacChoices → MacChoices
input_under change.OtherFlag s m = record m { with_options = not m.with_options }
input_under change.LapMore s m = record m { extension = s.number / ring + 1 }
input_under change.LapLess s m = record m { extension = s.number / ring + (ring - 1) }
input_under change.ChecksumKept s m = record m { checksum = s.segment.checksum }
input_under change.MacKept s m = record m { mac_bytes = mac_made (recipe_of s) }
input_under change.LastBytes s m = record m { part = Last }
input_under change.NoPseudoHeader s m = record m { pseudo_header = false }
input_under _ s m = m
