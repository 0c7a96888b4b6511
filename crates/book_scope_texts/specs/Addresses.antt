-- Addresses as operators write them. Its tops are `usual_address_text` and `usual_address_of`.
use Rattle.std.specs.Prelude.{◌⊎◌, ℕ, List, Option, Some, None, option_map}
use Rattle.std.specs.Net.Addr.{octets_of, segments_of}
use Rattle.std.specs.Net.Reader.{read_ipv4, read_ipv6, whole_value}
use Rattle.std.specs.Net.Text.{ipv4_text, ipv6_text}
use Rattle.book_base.specs.declared.address.Address.{Address}
use Rattle.book_base.specs.declared.address.Address.TheVariants.{V4, V6}
use Rattle.book_segments.specs.Spelling.{IsV4, IsV6}

-- four decimals with dots between them; or groups of hexadecimal digits in lower case with colons
-- between them, without leading zeros, the longest run of two or more zeros as `::`, the first of
-- equal ones (RFC 5952, section 4)
unfoldable pub usual_address_text : Address → List ℕ
usual_address_text (V4 bytes) = ipv4_text bytes
usual_address_text (V6 bytes) = ipv6_text (segments_of bytes)

-- the address of IPv6 whose groups are these, if there are some (RFC 4291, section 2.2)
abbrev pub address_of_groups : Option (List ℕ) → Option Address
address_of_groups groups = option_map (λ g. V6 (octets_of g)) groups

-- the address of IPv4, if there is one, and else this one (own)
abbrev pub ipv4_or : Option (List ℕ) → Option Address → Option Address
ipv4_or None other = other
ipv4_or (Some bytes) other = Some (V4 bytes)

-- the address that a text writes: four decimals without leading zeros, with dots between them; or
-- eight groups of one to four hexadecimal digits of either case, of which zeros may stand as `::`
-- and the last two as four decimals (RFC 4291, section 2.2)
unfoldable pub usual_address_of : List ℕ → Option Address
usual_address_of text =
    ipv4_or (whole_value (read_ipv4 text)) (address_of_groups (whole_value (read_ipv6 text)))

-- an address of four bytes, or of sixteen (RFC 791, section 3.1; RFC 8200, section 3)
abbrev pub IsAddress : Address → Type 0
IsAddress address = IsV4 address ⊎ IsV6 address
