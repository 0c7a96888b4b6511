-- The fields of a datagram as text. Our own format. Its top is `datagram_texts`.
use Rattle.std.specs.Prelude.{ℕ, nat_lt, if◌then◌else◌, List, [], ◌∷◌, ◌++◌, length, map}
use Rattle.std.specs.Prelude.{codes, decimal}
use Rattle.book_base.specs.declared.address.Address.{Address}
use Rattle.book_base.specs.declared.address.Address.TheVariants.{V4, V6}
use Rattle.book_base.specs.Hexadecimal.{hex_of}
use Rattle.book_lines.specs.Texts.{socket_texts}
use Rattle.book_segments.specs.Options.{Plain, plains, listed, options_of}
use Rattle.book_segments.specs.Segments.{Segment, good}
use Rattle.book_cmd_check.specs.declared.checksum.Checksum.{Checksum}
use Rattle.book_cmd_check.specs.declared.checksum.Checksum.TheVariants.{Good, Wrong}

-- the word for the family of an address (own)
abbrev pub family_text : Address → List ℕ
family_text (V4 bytes) = codes "ipv4"
family_text (V6 bytes) = codes "ipv6"

-- whether the checksum of a segment is right (RFC 9293, section 3.1)
abbrev pub checksum_in : Segment → Checksum
checksum_in d = if good d then Good else Wrong

-- the word that says whether a checksum is right (own)
abbrev pub checksum_text : Checksum → List ℕ
checksum_text Good = codes "good"
checksum_text Wrong = codes "wrong"

-- the text of an option: its kind, and from kind 2 on a colon and its body (RFC 9293, section 3.2)
abbrev pub option_text : Plain → List ℕ
option_text o = if nat_lt o.kind 2 then decimal o.kind else decimal o.kind ++ 58 ∷ hex_of o.body

-- the words for the options of a segment in order, or a hyphen for none (own)
abbrev pub options_texts : List Plain → List (List ℕ)
options_texts [] = codes "-" ∷ []
options_texts (o ∷ os) = option_text o ∷ map option_text os

-- the words for the numbers of a datagram, its flags and its payload's length (RFC 9293, section
-- 3.1)
abbrev pub number_texts : Segment → List (List ℕ) → List (List ℕ)
number_texts d others =
    codes "seq" ∷ decimal d.sequence ∷ codes "ack" ∷ decimal d.acknowledgement
    ∷ codes "flags" ∷ hex_of (d.flags ∷ []) ∷ codes "window" ∷ decimal d.window
    ∷ codes "urgent" ∷ decimal d.urgent ∷ codes "len" ∷ decimal (length d.payload) ∷ others

-- the words for whether a datagram's checksum is right, and for its options (RFC 9293, section 3.1)
abbrev pub rest_texts : Segment → List (List ℕ)
rest_texts d =
    codes "checksum" ∷ checksum_text (checksum_in d)
    ∷ codes "options" ∷ options_texts (plains (listed (options_of d.area)))

-- the fields of a datagram: family, sender, receiver, and what it says (RFC 9293, section 3.1)
unfoldable pub datagram_texts : Segment → List (List ℕ)
datagram_texts d =
    family_text d.source.address
    ∷ socket_texts d.source (socket_texts d.destination (number_texts d (rest_texts d)))
