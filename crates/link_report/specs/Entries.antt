-- What an entry keeps of a segment that was made, and what is told of one that passed.
use Rattle.std.specs.Prelude.{◌≡◌, ℕ, ◌%◌, ◌^◌, ◌<◌, List}
use Rattle.book_base.specs.declared.end.End.{End}
use Rattle.book_segments.specs.Bytes.{ring}
use Rattle.book_segments.specs.Options.{Ao, One, find_ao}
use Rattle.book_segments.specs.Segments.{Segment, Read, reading}
use Rattle.book_segments.specs.Spelling.{Fits}
use Rattle.tcp_segment.specs.Sums.{HasPlainHeader}
use Rattle.book_macs.specs.declared.context.Context.{Context}
use Rattle.book_macs.specs.Contexts.{bytes_of}
use Rattle.book_macs.specs.MacInput.{mac_input}
use Rattle.book_keys.specs.Rows.{Row}
use Rattle.book_endpoint.specs.Verdicts.{Key, Finding, key_of}
use Rattle.book_link.specs.Worlds.{Made}
use Rattle.link_report.specs.declared.entry.Entry.{Entry}

-- the bytes of a segment that was made are read as it, behind an IP header without options, and its MAC input is that of its number and its one TCP-AO option, with the row's flag (RFC 5925, section 5.1)
pub record IsWhole (m : Made) : Type 0 where
  pub plain : HasPlainHeader m.bytes
  pub reads : reading m.bytes ≡ Read m.emission.segment
  pub sequence : m.emission.segment.sequence ≡ m.emission.number % ring
  pub ao : Ao
  pub found : find_ao m.emission.segment.area ≡ One ao
  pub input : m.emission.input ≡ mac_input m.emission.number m.emission.segment ao m.emission.sending.row.with_options

-- a segment that was made, with this maker, number, row, context and bytes
pub record IsMade (maker : End) (number : ℕ) (row : Row) (context : Context) (bytes : List ℕ) (m : Made) : Type 0 where
  pub maker_is : m.maker ≡ maker
  pub number_is : m.emission.number ≡ number
  pub row_is : m.emission.sending.row ≡ row
  pub context_is : m.emission.context ≡ bytes_of context
  pub bytes_are : m.bytes ≡ bytes
  pub whole : IsWhole m

-- the key of an entry (RFC 5925, section 3.1)
abbrev pub entry_key : Entry → Key
entry_key k = record { algorithm = k.algorithm; master = k.master }

-- an entry stands for a segment that was made
pub record IsEntry (k : Entry) (m : Made) : Type 0 where
  pub maker : m.maker ≡ k.maker
  pub number : m.emission.number ≡ k.number
  pub key : key_of m.emission.sending.row ≡ entry_key k
  pub with_options : m.emission.sending.row.with_options ≡ k.with_options
  pub context : m.emission.context ≡ bytes_of k.context
  pub bytes : m.bytes ≡ k.bytes
  pub small : m.emission.number < 2 ^ 64
  pub fits : Fits m.emission.segment
  pub whole : IsWhole m

-- what the check found of a segment that passed under a row, with this number and context (RFC 5925, section 7.5)
pub record PassesUnder (row : Row) (d : Segment) (number : ℕ) (context : Context) (f : Finding) : Type 0 where
  pub key : f.key ≡ key_of row
  pub context_is : f.context ≡ bytes_of context
  pub ao : Ao
  pub found : find_ao d.area ≡ One ao
  pub input : f.input ≡ mac_input number d ao row.with_options
