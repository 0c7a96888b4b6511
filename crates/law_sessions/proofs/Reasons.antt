-- Only a link type that isn't read is told by its number.
use Rattle.std.proofs.Common.{◌≡◌, ℕ, ◌+◌, ◌*◌, ◌%◌, ◌/◌, ◌==◌, Bool, true, false, List, ◌∷◌, length, nat_lt, slice_index, Option, None, Some, Result, Ok, Err, if◌then◌else◌, ap}
use Rattle.book_base.specs.Results.{◌>>=◌}
use Rattle.book_pcap.specs.declared.pcap_head.ByteOrder.TheVariants.{Big}
use Rattle.book_pcap.specs.Packets.{two_at}
use Rattle.book_captures.specs.declared.datagram_parts.IpVersion.{IpVersion}
use Rattle.book_captures.specs.declared.datagram_parts.IpVersion.TheVariants.{V4, V6}
use Rattle.book_captures.specs.declared.link_type.LinkType.{LinkType}
use Rattle.book_captures.specs.declared.link_type.Protocol.{Protocol}
use Rattle.book_captures.specs.declared.link_type.Protocol.TheVariants.{Ip, Ipv4, Ipv6, Tag, Session, Labels}
use Rattle.book_captures.specs.declared.reasons.Header.TheVariants as header
use Rattle.book_captures.specs.declared.reasons.Skipped.{Skipped}
use Rattle.book_captures.specs.declared.reasons.Skipped.TheVariants.{UnknownLink, NotIp, Version, NotSession, Short, Cut}
use Rattle.book_captures.specs.Parts.{Frame}
use Rattle.book_captures.specs.Frames.{Layer, ethertype, link_header_length, behind_link, behind_tags, behind_session, behind_labels, innermost, is_ip_protocol, version_by, version_in, datagram_at, as_cut, with_cuts, missing_from, datagram_in, link_type}
use Rattle.book_captures.specs.Captures.{datagram_by, frame_datagram}

-- a reading that isn't refused for a link type
abbrev IsKnown : {A : Type 0} → Result A Skipped → Type 0
IsKnown r = (n : ℕ) → r ≡ Err (UnknownLink n) → ⊥

either_known : {A : Type 0} (b : Bool) (r s : Result A Skipped) → IsKnown r → IsKnown s → IsKnown (if b then r else s)
either_known true r s first second = first
either_known false r s first second = second

good_known : {A : Type 0} (x : A) → IsKnown (Ok x)
good_known x n e = cc

short_known : {A : Type 0} (h : _) → IsKnown {A = A} (Err (Short h))
short_known h n e = cc

not_ip_known : {A : Type 0} → IsKnown {A = A} (Err NotIp)
not_ip_known n e = cc

version_refused : {A : Type 0} → IsKnown {A = A} (Err Version)
version_refused n e = cc

not_session_known : {A : Type 0} → IsKnown {A = A} (Err NotSession)
not_session_known n e = cc

bound_known : {A B : Type 0} (r : Result A Skipped) (f : A → Result B Skipped) → IsKnown r → ((x : A) → IsKnown (f x)) → IsKnown (r >>= f)
bound_known (Ok x) f first second = second x
bound_known (Err why) f first second = λ n e. (let same : why ≡ UnknownLink n = cc in first n (ap Err same))

link_known : (link : LinkType) (frame : List ℕ) → IsKnown (behind_link link frame)
unfolding behind_link
link_known link frame = either_known (nat_lt (length frame) (link_header_length link)) _ _ (short_known header.Link) (good_known _)

tags_known : (p : Protocol) (body : List ℕ) → IsKnown (behind_tags p body)
unfolding behind_tags
tags_known Tag (a ∷ b ∷ c ∷ d ∷ rest) = tags_known (ethertype (c * 256 + d)) rest
tags_known Tag body = short_known header.Tag
tags_known p body = good_known _

session_known : (p : Protocol) (body : List ℕ) → IsKnown (behind_session p body)
unfolding behind_session
session_known Session body = either_known (nat_lt (length body) 8) _ _ (short_known header.Session) (either_known (two_at Big body 0 == 4352) _ _ (good_known _) not_session_known)
session_known p body = good_known _

labels_known : (p : Protocol) (body : List ℕ) → IsKnown (behind_labels p body)
unfolding behind_labels
labels_known Labels (a ∷ b ∷ c ∷ d ∷ rest) = either_known (c % 2 == 1) _ _ (good_known _) (labels_known Labels rest)
labels_known Labels body = short_known header.Label
labels_known p body = good_known _

innermost_known : (link : LinkType) (frame : List ℕ) → IsKnown (innermost link frame)
unfolding innermost
innermost_known link frame =
    bound_known (behind_link link frame) _ (link_known link frame)
    (λ (x : Layer). bound_known (behind_tags x.protocol x.body) _ (tags_known x.protocol x.body)
    (λ (y : Layer). bound_known (behind_session y.protocol y.body) _ (session_known y.protocol y.body)
    (λ (z : Layer). labels_known z.protocol z.body)))

bits_known : (p : Protocol) (bits : ℕ) → IsKnown (version_by p bits)
bits_known Ip bits = either_known (bits == 4) _ _ (good_known V4) (either_known (bits == 6) _ _ (good_known V6) version_refused)
bits_known Ipv4 bits = either_known (bits == 4) _ _ (good_known V4) version_refused
bits_known Ipv6 bits = either_known (bits == 6) _ _ (good_known V6) version_refused
bits_known p bits = not_ip_known

version_known : (layer : Layer) → IsKnown (version_in layer)
unfolding version_in
version_known layer = either_known (is_ip_protocol layer.protocol) _ _
    (either_known (length layer.body == 0) _ _ (short_known header.Datagram) (bits_known layer.protocol (slice_index layer.body 0 / 16))) not_ip_known

short_or_cut : (b : Bool) (h : _) (n : ℕ) → (if b then Cut h else Short h) ≡ UnknownLink n → ⊥
short_or_cut true h n e = cc
short_or_cut false h n e = cc

uncut : (missing : ℕ) (why : Skipped) (n : ℕ) → as_cut missing why ≡ UnknownLink n → why ≡ UnknownLink n
uncut missing (Short h) n e = absurd (short_or_cut (nat_lt 0 missing) h n e)
uncut missing (UnknownLink m) n e = e
uncut missing NotIp n e = e
uncut missing Version n e = e
uncut missing NotSession n e = e
uncut missing (Cut h) n e = e

cuts_known : {A : Type 0} (missing : ℕ) (r : Result A Skipped) → IsKnown r → IsKnown (with_cuts missing r)
cuts_known missing (Ok x) known = good_known x
cuts_known missing (Err why) known = λ n e. (let same : as_cut missing why ≡ UnknownLink n = cc in known n (ap Err (uncut missing why n same)))

datagram_known : (link : LinkType) (frame : List ℕ) (original : ℕ) → IsKnown (datagram_in link frame original)
unfolding datagram_in
datagram_known link frame original = cuts_known (missing_from frame original) _
    (bound_known (innermost link frame) _ (innermost_known link frame)
    (λ (layer : Layer). bound_known (version_in layer) _ (version_known layer)
    (λ (version : IpVersion). good_known (datagram_at version layer.body (missing_from frame original)))))

number_by : (link : Option LinkType) (f : Frame) (n : ℕ) → datagram_by link f ≡ Err (UnknownLink n) → n ≡ f.link
number_by None f n e = cc
number_by (Some link) f n e = absurd (datagram_known link f.bytes f.original n e)

pub link_number : (f : Frame) (n : ℕ) → frame_datagram f ≡ Err (UnknownLink n) → n ≡ f.link
unfolding frame_datagram
link_number f n e = number_by (link_type f.link) f n e
