-- The line of a packet with a datagram is its line form.
use Rattle.std.proofs.Common.{◌≡◌, ◌⊎◌, ℕ, ◌+◌, ◌*◌, ◌/◌, ◌<◌, ◌≤◌, ◌==◌, ◌||◌, Bool, true, false, List, [], ◌∷◌, ◌++◌, length, take, drop, decimal, Option, Some, None, Result, Ok, Err, if◌then◌else◌, refl, sym, ap, ◌∙◌, inl, inr, arith}
use Rattle.std.specs.Prelude.{nat_lt, slice_index}
use Rattle.std.proofs.lemmas.Bool.{le-ltb}
use Rattle.std.proofs.lemmas.List.{length-drop, length-take, take-append-drop, drop_more}
use Rattle.book_base.specs.Hexadecimal.{hex_of}
use Rattle.book_base.specs.Results.{◌>>=◌}
use Rattle.book_pcap.specs.declared.pcap_head.ByteOrder.TheVariants.{Big}
use Rattle.book_pcap.specs.declared.pcap_head.LinkType.TheVariants.{Ethernet, Raw}
use Rattle.book_pcap.specs.Packets.{two_at, datagram_of, is_ip}
use Rattle.law_pcap.specs.LineForms.{packet_line as line_form_of}
use Rattle.book_captures.specs.declared.datagram_parts.IpVersion.{IpVersion}
use Rattle.book_captures.specs.declared.link_type.LinkType.{LinkType}
use Rattle.book_captures.specs.declared.link_type.LinkType.TheVariants as link
use Rattle.book_captures.specs.declared.link_type.Protocol.{Protocol}
use Rattle.book_captures.specs.declared.link_type.Protocol.TheVariants.{Ip, Ipv4, Ipv6}
use Rattle.book_captures.specs.declared.reasons.Header.TheVariants as header
use Rattle.book_captures.specs.declared.reasons.Skipped.{Skipped}
use Rattle.book_captures.specs.declared.reasons.Skipped.TheVariants.{Short}
use Rattle.book_captures.specs.Frames.{Layer, ethertype, is_ip_protocol, version_by, behind_link, behind_tags, behind_session, behind_labels, innermost, version_in, full_length, Datagram, datagram_at, with_cuts, missing_from, datagram_in}
use Rattle.book_captures.specs.Captures.{frame_datagram}
use Rattle.book_captures.specs.PacketLines.{packet_line}

-- some bytes are a line
line_same : (seconds : ℕ) (xs : List ℕ) → 0 < length xs → decimal seconds ++ 32 ∷ hex_of xs ≡ line_form_of seconds xs
line_same seconds [] some = absurd (omega arith)
line_same seconds (b ∷ bs) some = refl

-- ---- what is innermost holds the datagram

same_datagram : (a b : Datagram) → ◌≡◌ {A = Result Datagram Skipped} (Ok a) (Ok b) → a ≡ b
same_datagram a b e = cc

-- the datagram at the front of these bytes, with what stands behind it, is all of them
record Holds (body : List ℕ) (d : Datagram) : Type 0 where
  some : 0 < length body
  all : d.bytes ++ d.behind ≡ body

whole_at : (version : IpVersion) (body : List ℕ) (missing : ℕ) → (datagram_at version body missing).bytes ++ (datagram_at version body missing).behind ≡ body
unfolding datagram_at
whole_at version body missing = take-append-drop (full_length version body missing) body

no_version : (protocol : Protocol) (version : IpVersion) → is_ip_protocol protocol ≡ true → version_in (record { protocol = protocol; body = [] }) ≡ Ok version → ⊥
unfolding version_in
no_version protocol version ip e = let bad : ◌≡◌ {A = Result IpVersion Skipped} (Err (Short header.Datagram)) (Ok version) = rw ip at e in absurd (cc)

some_body : (protocol : Protocol) (body : List ℕ) (version : IpVersion) → is_ip_protocol protocol ≡ true → version_in (record { protocol = protocol; body = body }) ≡ Ok version → 0 < length body
some_body protocol [] version ip e = absurd (no_version protocol version ip e)
some_body protocol (b ∷ bs) version ip e = omega arith

holds_by : (r : Result IpVersion Skipped) (protocol : Protocol) (body : List ℕ) (missing : ℕ) (d : Datagram) → is_ip_protocol protocol ≡ true → version_in (record { protocol = protocol; body = body }) ≡ r
    → with_cuts missing (r >>= λ v. Ok (datagram_at v body missing)) ≡ Ok d → Holds body d
holds_by (Err why) protocol body missing d ip r e = absurd (cc)
holds_by (Ok v) protocol body missing d ip r e =
    let same = same_datagram (datagram_at v body missing) d e in
    record { some = some_body protocol body v ip r; all = ap (λ (x : Datagram). x.bytes ++ x.behind) (sym same) ∙ whole_at v body missing }

holds : (l : LinkType) (frame : List ℕ) (original : ℕ) (protocol : Protocol) (body : List ℕ) (d : Datagram) → innermost l frame ≡ Ok (record { protocol = protocol; body = body }) → is_ip_protocol protocol ≡ true
    → datagram_in l frame original ≡ Ok d → Holds body d
unfolding datagram_in
holds l frame original protocol body d inner ip e =
    holds_by (version_in (record { protocol = protocol; body = body })) protocol body (missing_from frame original) d ip refl (rw inner at e)

-- the line of held bytes
line_held : (seconds : ℕ) (body : List ℕ) (d : Datagram) → Holds body d → decimal seconds ++ 32 ∷ hex_of (take 65575 (d.bytes ++ d.behind)) ≡ line_form_of seconds (take 65575 body)
line_held seconds body d h =
    let some = h.some in
    let size = length-take 65575 body in
    ap (λ (xs : List ℕ). decimal seconds ++ 32 ∷ hex_of (take 65575 xs)) h.all ∙ line_same seconds (take 65575 body) (omega arith)

-- ---- raw IP

raw_inner : (bytes : List ℕ) → innermost link.RawIp bytes ≡ Ok (record { protocol = Ip; body = bytes })
unfolding innermost behind_link behind_tags behind_session behind_labels
raw_inner bytes = rw (le-ltb (length bytes) 0 (omega arith)) refl

raw_datagram : (time original : ℕ) (bytes : List ℕ) (d : Datagram) → frame_datagram (record { time = Some time; link = 101; original = original; bytes = bytes }) ≡ Ok d → datagram_in link.RawIp bytes original ≡ Ok d
unfolding frame_datagram
raw_datagram time original bytes d e = e

pub raw_line : (n time original : ℕ) (bytes : List ℕ) (d : Datagram) → frame_datagram (record { time = Some time; link = 101; original = original; bytes = bytes }) ≡ Ok d
    → packet_line (record { number = n; frame = record { time = Some time; link = 101; original = original; bytes = bytes } }) ≡ line_form_of (time / 1000000000) (datagram_of Raw bytes)
unfolding packet_line
raw_line n time original bytes d e =
    rw e (line_held (time / 1000000000) bytes d (holds link.RawIp bytes original Ip bytes d (raw_inner bytes) refl (raw_datagram time original bytes d e)))

-- ---- Ethernet

same_head : (a b : ℕ) (xs ys : List ℕ) → a ∷ xs ≡ b ∷ ys → (a ≡ b) × (xs ≡ ys)
same_head a b xs ys e = (cc, cc)

-- the bytes at two places
record At (bytes : List ℕ) (a b : ℕ) : Type 0 where
  long : 14 ≤ length bytes
  first : slice_index bytes 12 ≡ a
  second : slice_index bytes 13 ≡ b

places : (bytes rest : List ℕ) (a b : ℕ) → drop 12 bytes ≡ a ∷ b ∷ rest → At bytes a b
places bytes rest a b e =
    let size = sym (length-drop 12 bytes) ∙ ap (λ (xs : List ℕ). length xs) e in
    let one = same_head (slice_index bytes 12) a (drop 13 bytes) (b ∷ rest) (sym (drop_more bytes 12 0 (omega arith)) ∙ e) in
    let two = same_head (slice_index bytes 13) b (drop 14 bytes) rest (sym (drop_more bytes 13 0 (omega arith)) ∙ one.1) in
    record { long = omega arith; first = one.0; second = two.0 }

v4_inner : (bytes rest : List ℕ) → drop 12 bytes ≡ 8 ∷ 0 ∷ rest → innermost link.Ethernet bytes ≡ Ok (record { protocol = Ipv4; body = drop 14 bytes })
unfolding innermost behind_link behind_tags behind_session behind_labels ethertype
v4_inner bytes rest e = let x = places bytes rest 8 0 e in rw (le-ltb (length bytes) 14 x.long, x.first, x.second) refl

v6_inner : (bytes rest : List ℕ) → drop 12 bytes ≡ 134 ∷ 221 ∷ rest → innermost link.Ethernet bytes ≡ Ok (record { protocol = Ipv6; body = drop 14 bytes })
unfolding innermost behind_link behind_tags behind_session behind_labels ethertype
v6_inner bytes rest e = let x = places bytes rest 134 221 e in rw (le-ltb (length bytes) 14 x.long, x.first, x.second) refl

ethernet_datagram : (time original : ℕ) (bytes : List ℕ) (d : Datagram) → frame_datagram (record { time = Some time; link = 1; original = original; bytes = bytes }) ≡ Ok d → datagram_in link.Ethernet bytes original ≡ Ok d
unfolding frame_datagram
ethernet_datagram time original bytes d e = e

v4_same : (bytes rest : List ℕ) → drop 12 bytes ≡ 8 ∷ 0 ∷ rest → datagram_of Ethernet bytes ≡ take 65575 (drop 14 bytes)
v4_same bytes rest e = rw e refl

v6_same : (bytes rest : List ℕ) → drop 12 bytes ≡ 134 ∷ 221 ∷ rest → datagram_of Ethernet bytes ≡ take 65575 (drop 14 bytes)
v6_same bytes rest e = rw e refl

pub v4_line : (n time original : ℕ) (bytes rest : List ℕ) (d : Datagram) → drop 12 bytes ≡ 8 ∷ 0 ∷ rest → frame_datagram (record { time = Some time; link = 1; original = original; bytes = bytes }) ≡ Ok d
    → packet_line (record { number = n; frame = record { time = Some time; link = 1; original = original; bytes = bytes } }) ≡ line_form_of (time / 1000000000) (datagram_of Ethernet bytes)
unfolding packet_line
v4_line n time original bytes rest d says e =
    rw (e, v4_same bytes rest says) (line_held (time / 1000000000) (drop 14 bytes) d (holds link.Ethernet bytes original Ipv4 (drop 14 bytes) d (v4_inner bytes rest says) refl (ethernet_datagram time original bytes d e)))

pub v6_line : (n time original : ℕ) (bytes rest : List ℕ) (d : Datagram) → drop 12 bytes ≡ 134 ∷ 221 ∷ rest → frame_datagram (record { time = Some time; link = 1; original = original; bytes = bytes }) ≡ Ok d
    → packet_line (record { number = n; frame = record { time = Some time; link = 1; original = original; bytes = bytes } }) ≡ line_form_of (time / 1000000000) (datagram_of Ethernet bytes)
unfolding packet_line
v6_line n time original bytes rest d says e =
    rw (e, v6_same bytes rest says) (line_held (time / 1000000000) (drop 14 bytes) d (holds link.Ethernet bytes original Ipv6 (drop 14 bytes) d (v6_inner bytes rest says) refl (ethernet_datagram time original bytes d e)))
