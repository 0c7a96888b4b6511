-- The written form of a datagram: what a sender lays out of a head, a MAC and a payload.
use Rattle.std.specs.Prelude.{◌≡◌, ℕ, ◌+◌, ◌*◌, ◌<◌, ◌≤◌, ◌⊎◌, List, [], ◌∷◌, ◌++◌, length, Option, Some, None}
use Rattle.book_base.specs.declared.address.Address.{Address}
use Rattle.book_base.specs.declared.address.Address.TheVariants.{V4, V6}
use Rattle.book_base.specs.Addresses.{IsOneFamily}
use Rattle.book_segments.specs.Bytes.{put2, put4, ring}
use Rattle.book_segments.specs.Segments.{IpHeader, Segment, complement_of, spell, reading, Read}
use Rattle.book_segments.specs.Spelling.{Fits, Good, with_sum, finished}
use Rattle.tcp_segment.specs.Written.{area_heads, written_area, ip_words, ip_as, written}
use Rattle.tcp_segment.specs.declared.spelling.Head.{Head}

-- the length of the option of the maximum segment size
abbrev pub mss_length : Option ℕ → ℕ
mss_length None = 0
mss_length (Some mss) = 4

-- the options in front of a MAC of so many bytes
abbrev pub option_heads : Head → ℕ → List ℕ
option_heads h mac_length = area_heads h.mss h.key_id h.rnext mac_length

-- the IP header over so many TCP bytes, in an address's family
abbrev pub written_ip : Head → ℕ → Address → IpHeader
written_ip h size a = ip_as a (ip_words h.source.address h.destination.address (20 + size))

-- the segment that a sender lays out, with its TCP checksum zero
abbrev pub drafted : Head → List ℕ → List ℕ → Segment
drafted h mac payload =
    written h.source h.destination h.sequence h.acknowledgement h.flags h.window (written_area h.mss h.key_id h.rnext mac) payload

-- the first bytes of the IP header of the written form, up to the addresses (RFC 791, section 3.1; RFC 8200, section 3)
abbrev pub ip_start : Head → ℕ → Address → List ℕ
ip_start h size (V4 bytes) = 69 ∷ 0 ∷ put2 (20 + size) (0 ∷ 0 ∷ 64 ∷ 0 ∷ 64 ∷ 6 ∷ put2 (complement_of (ip_words h.source.address h.destination.address (20 + size))) [])
ip_start h size (V6 bytes) = 96 ∷ 0 ∷ 0 ∷ 0 ∷ put2 size (6 ∷ 64 ∷ [])

-- the TCP header of the written form with this checksum, over options of this length (RFC 9293, section 3.1)
abbrev pub tcp_start : Head → ℕ → ℕ → List ℕ
tcp_start h checksum area_length =
    put2 h.source.port (put2 h.destination.port (put4 h.sequence (put4 h.acknowledgement ((80 + 4 * area_length) ∷ h.flags ∷ put2 h.window (put2 checksum (0 ∷ 0 ∷ []))))))

-- the length of the IP header of the written form
abbrev pub ip_size : Address → ℕ
ip_size (V4 bytes) = 20
ip_size (V6 bytes) = 40

-- where the MAC begins
abbrev pub mac_place : Head → ℕ
mac_place h = ip_size h.source.address + 24 + mss_length h.mss

-- the bytes of all headers and options
abbrev pub header_length : Head → ℕ
header_length h = mac_place h + h.mac_length

-- an address has its family's length
abbrev pub IsSized : Address → Type 0
IsSized (V4 bytes) = length bytes ≡ 4
IsSized (V6 bytes) = length bytes ≡ 16

-- both addresses are of one family, and have its length
abbrev pub AreSized : Address → Address → Type 0
AreSized one two = IsOneFamily one two × IsSized one × IsSized two

-- what a caller keeps: one family, a MAC of 12 or 16 bytes, at most 1,500 bytes in all
pub record IsHead (h : Head) (payload_len : ℕ) : Type 0 where
  pub family : IsOneFamily h.source.address h.destination.address
  pub mac : (h.mac_length ≡ 12) ⊎ (h.mac_length ≡ 16)
  pub payload : payload_len ≤ 1460
  pub most : header_length h + payload_len ≤ 1500

-- the numbers of a head are those of its types
pub record HasNumbers (h : Head) : Type 0 where
  pub source_port : h.source.port < 65536
  pub destination_port : h.destination.port < 65536
  pub sequence : h.sequence < ring
  pub acknowledgement : h.acknowledgement < ring
  pub flags : h.flags < 256
  pub window : h.window < 65536

-- the fields of a head fit their places
pub record HeadFits (h : Head) : Type 0 where
  pub family : AreSized h.source.address h.destination.address
  pub numbers : HasNumbers h
  pub mac : (h.mac_length ≡ 12) ⊎ (h.mac_length ≡ 16)

-- the bytes are the segment of this head, MAC and payload, with this TCP checksum, and then the rest; TCP header, MAC, payload and rest begin at these places
pub record HoldsDraft (b : List ℕ) (header mac payload len : ℕ) (h : Head) (checksum : ℕ) (code text rest : List ℕ) : Type 0 where
  pub bytes : b ≡ spell (with_sum (drafted h code text) checksum) ++ rest
  pub head : HeadFits h
  pub checksum_fits : checksum < 65536
  pub header_is : header ≡ ip_size h.source.address
  pub mac_is : mac ≡ mac_place h
  pub payload_is : payload ≡ header_length h
  pub len_is : len ≡ header_length h + length text
  pub mac_length : length code ≡ h.mac_length
  pub most : len ≤ 1500

-- the bytes stand in front of the MAC of a segment of the written form, with any TCP checksum
pub record IsFront (front : List ℕ) (header mac payload len : ℕ) : Type 0 where
  pub head : Head
  pub checksum : ℕ
  pub code : List ℕ
  pub text : List ℕ
  pub holds : HoldsDraft (front ++ (code ++ text)) header mac payload len head checksum code text []

-- what a finished datagram leaves in the buffer: its written form with both checksums right, and then the rest; it is good, and read again
pub record IsFinished (h : Head) (mac payload rest out : List ℕ) : Type 0 where
  pub bytes : out ≡ spell (finished (drafted h mac payload)) ++ rest
  pub fits : Fits (finished (drafted h mac payload))
  pub good : Good (finished (drafted h mac payload))
  pub again : (more : List ℕ) → reading (spell (finished (drafted h mac payload)) ++ more) ≡ Read (finished (drafted h mac payload))
