-- The values of this crate as those of the definitions.
use Rattle.std.specs.Prelude.{ℕ, Bool, List, [], ◌∷◌, ◌++◌, option_map, if◌then◌else◌}
use Rattle.book_keys.specs.Rows.{Table}
use Rattle.book_segments.specs.Bytes.{put4}
use Rattle.book_segments.specs.Options.{Ao}
use Rattle.book_segments.specs.Segments.{Segment, header}
use Rattle.book_why.specs.declared.change.Change.{Change}
use Rattle.book_why.specs.Changes as changes
use Rattle.book_why.specs.Recipes as book
use Rattle.tcp_segment.specs.Views.{view_ao}
use Rattle.scope_why.specs.declared.choices.MacChoices.{MacChoices}
use Rattle.scope_why.specs.declared.recipe.Recipe.{Recipe}
use Rattle.scope_why.specs.declared.suspect.BothTables.{BothTables}
use Rattle.scope_why.specs.declared.suspect.Suspect.{Suspect}

-- the choices
abbrev pub choices_view : MacChoices → book.MacChoices
choices_view m = record {
  algorithm = m.algorithm;
  master = m.master.items;
  source = m.source;
  destination = m.destination;
  source_isn = m.source_isn;
  destination_isn = m.destination_isn;
  output_length = m.output_length;
  extension = m.extension;
  pseudo_header = m.pseudo_header;
  checksum = m.checksum;
  with_options = m.with_options;
  mac_bytes = m.mac_bytes.items;
  part = m.part;
  cut = m.cut;
}

-- the recipe
abbrev pub recipe_view : Recipe → book.Recipe
recipe_view r = record {
  algorithm = r.algorithm;
  master = r.master.items;
  derivation = r.derivation.items;
  input = r.front.items ++ r.payload.now;
  part = r.part;
  taken = r.taken;
}

-- the segment in question
abbrev pub suspect_view : Suspect → book.Suspect
suspect_view s = record {
  segment = s.datagram.now;
  ao = view_ao s.ao;
  number = s.number;
  source_isn = s.source_isn;
  destination_isn = s.destination_isn;
  row = s.row.now;
}

-- the tables of both nodes
abbrev pub both_view : BothTables → changes.BothTables
both_view b = record { receiver = b.receiver.now; sender = option_map (λ t. t.now) b.sender }

-- what a MAC is computed over in front of the payload (RFC 5925, section 5.1)
abbrev pub front_made : book.MacChoices → Segment → Ao → List ℕ
front_made m d ao =
    put4 m.extension (book.behind_pseudo m.pseudo_header d (header d m.checksum []))
    ++ book.covered_with m.with_options d.area ao m.mac_bytes

-- a change, if it passes a test
abbrev pub kept : (Change → Bool) → Change → List Change
kept test change = if test change then change ∷ [] else []
