-- How the MAC of a segment is made, as lines. Our own format. Its top is `mac_lines`.
use Rattle.std.specs.Prelude.{ℕ, ◌/◌, Bool, List, [], ◌∷◌, ◌++◌, length, replicate, codes, decimal}
use Rattle.std.specs.Prelude.{if◌then◌else◌}
use Rattle.book_base.specs.Hexadecimal.{hex_of}
use Rattle.book_segments.specs.Bytes.{put4, ring, same_bytes}
use Rattle.book_segments.specs.Segments.{header, pseudo}
use Rattle.book_lines.specs.Texts.{line_text}
use Rattle.book_why.specs.Judging.{suspect_context}
use Rattle.book_why.specs.Recipes.{Recipe, Suspect, covered_with, key_made, mac_made, recipe_of}

-- the extension in the input of a segment's MAC (RFC 5925, section 5.1)
unfoldable pub extension_part : Suspect → List ℕ
extension_part s = put4 (s.number / ring) []

-- the pseudo-header in the input of a segment's MAC (RFC 5925, section 5.1)
unfoldable pub pseudo_part : Suspect → List ℕ
pseudo_part s = pseudo s.segment []

-- the TCP header in the input of a segment's MAC, its checksum zero (RFC 5925, section 5.1)
unfoldable pub header_part : Suspect → List ℕ
header_part s = header s.segment 0 []

-- the options in the input of a segment's MAC, the MAC zero (RFC 5925, section 5.1)
unfoldable pub options_part : Suspect → List ℕ
options_part s =
    covered_with s.row.with_options s.segment.area s.ao (replicate (length s.ao.mac) 0)

-- a line of bytes under a row's (own)
abbrev pub part_line : (name bytes : List ℕ) → List ℕ
part_line name bytes = line_text (codes " " ∷ name ∷ hex_of bytes ∷ [])

-- the line of a traffic key, which is a secret: where it is asked for (RFC 5925, section 3.1)
abbrev pub key_line_if : Bool → Recipe → List ℕ
key_line_if with_key r =
    if with_key then part_line (codes "traffic key") (key_made r.algorithm r.master r.derivation)
    else []

-- the lines of the parts of a MAC's input; of the payload, how many bytes it has (RFC 5925, section
-- 5.1)
abbrev pub input_lines : Suspect → List ℕ
input_lines s =
    part_line (codes "extension") (extension_part s)
    ++ (part_line (codes "pseudo-header") (pseudo_part s)
    ++ (part_line (codes "header") (header_part s)
    ++ (part_line (codes "options") (options_part s)
    ++ line_text (codes " " ∷ codes "payload" ∷ decimal (length s.segment.payload)
    ∷ codes "bytes" ∷ []))))

-- whether the MAC that was found is the one that was computed (RFC 5925, section 7.5)
abbrev pub agrees_text : Bool → List ℕ
agrees_text same = if same then codes "agrees" else codes "differs"

-- the line of the MAC that was computed for a segment that has this one (RFC 5925, section 7.5)
abbrev pub computed_line : (found computed : List ℕ) → List ℕ
computed_line found computed =
    line_text (codes " " ∷ codes "computed" ∷ hex_of computed
    ∷ agrees_text (same_bytes found computed) ∷ [])

-- the lines of how the MAC of a segment is made: the context, where it is asked for the traffic
-- key, the parts of the input, and the MAC (RFC 5925, sections 5.1 and 5.2)
unfoldable pub mac_lines : (with_key : Bool) → Suspect → List ℕ
mac_lines with_key s =
    part_line (codes "context") (suspect_context s)
    ++ (key_line_if with_key (recipe_of s)
    ++ (input_lines s ++ computed_line s.ao.mac (mac_made (recipe_of s))))
