-- The written form of a datagram: what a sender lays out. Where the standards leave a choice, it is our own.
use Rattle.std.specs.Prelude.{ℕ, ◌+◌, List, [], ◌∷◌, ◌++◌, length, Option, Some, None}
use Rattle.book_base.specs.declared.address.Address.{Address}
use Rattle.book_base.specs.declared.address.Address.TheVariants.{V4, V6}
use Rattle.book_base.specs.declared.address.Socket.{Socket}
use Rattle.book_segments.specs.Bytes.{put2}
use Rattle.book_segments.specs.Sockets.{octets}
use Rattle.book_segments.specs.Segments.{IpHeader, Ipv4, Ipv6, Segment, complement_of}

-- the option of the maximum segment size, where there is one (RFC 9293, section 3.7.1)
abbrev pub mss_option : Option ℕ → List ℕ
mss_option None = []
mss_option (Some mss) = 2 ∷ 4 ∷ put2 mss []

-- the options up to a MAC of so many bytes: the maximum segment size where there is one, then TCP-AO (RFC 5925, section 2.2; the order is our own)
abbrev pub area_heads : Option ℕ → ℕ → ℕ → ℕ → List ℕ
area_heads mss key_id rnext_key_id mac_length = mss_option mss ++ (29 ∷ (4 + mac_length) ∷ key_id ∷ rnext_key_id ∷ [])

-- the option area with this MAC, without padding (RFC 5925, section 2.2; RFC 9293, section 3.1)
abbrev pub written_area : Option ℕ → ℕ → ℕ → List ℕ → List ℕ
written_area mss key_id rnext_key_id mac = area_heads mss key_id rnext_key_id (length mac) ++ mac

-- an IPv4 header over so many bytes in all, with its checksum zero: service and identification 0, don't fragment, TTL 64 (RFC 791, section 3.1; the values are our own)
abbrev pub ip_words : Address → Address → ℕ → List ℕ
ip_words source destination total =
    69 ∷ 0 ∷ put2 total (0 ∷ 0 ∷ 64 ∷ 0 ∷ 64 ∷ 6 ∷ 0 ∷ 0 ∷ octets source ++ octets destination)

-- the IP header in an address's family, where an IPv4 header has these words: without options; over IPv6 with traffic class and flow label 0 and hop limit 64 (RFC 791, section 3.1; RFC 8200, section 3; the values are our own)
abbrev pub ip_as : Address → List ℕ → IpHeader
ip_as (V4 bytes) words = Ipv4 0 0 1 64 (complement_of words) []
ip_as (V6 bytes) words = Ipv6 0 64

-- the IP header from one address to another over so many TCP bytes
abbrev pub written_ip : Address → Address → ℕ → IpHeader
written_ip source destination size = ip_as source (ip_words source destination (20 + size))

-- the segment that a sender lays out, its TCP checksum zero: reserved bits and urgent pointer zero (RFC 9293, section 3.1; the values are our own)
abbrev pub written : Socket → Socket → ℕ → ℕ → ℕ → ℕ → List ℕ → List ℕ → Segment
written source destination sequence acknowledgement flags window area payload =
    record {
      ip = written_ip source.address destination.address (20 + length area + length payload);
      source = source;
      destination = destination;
      sequence = sequence;
      acknowledgement = acknowledgement;
      reserved = 0;
      flags = flags;
      window = window;
      checksum = 0;
      urgent = 0;
      area = area;
      payload = payload;
    }
