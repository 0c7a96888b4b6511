-- The datagram of a frame of bytes has a byte, and is bytes.
use Rattle.std.proofs.Common.{◌≡◌, ℕ, ◌<◌, Bool, true, false, List, [], ◌∷◌, ◌++◌, length, drop, Option, None, Some, Result, Ok, Err, refl, sym, ap, ◌∙◌, arith}
use Rattle.std.specs.List.{All}
use Rattle.std.proofs.lemmas.List.{take-append-drop, drop_at}
use Rattle.std.proofs.lemmas.List.Elements.{All-drop}
use Rattle.book_captures.specs.declared.datagram_parts.IpVersion.{IpVersion}
use Rattle.book_captures.specs.declared.link_type.LinkType.{LinkType}
use Rattle.book_captures.specs.declared.link_type.Protocol.{Protocol}
use Rattle.book_captures.specs.declared.reasons.Skipped.{Skipped}
use Rattle.book_captures.specs.Parts.{Frame}
use Rattle.book_captures.specs.Frames.{Layer, innermost, is_ip_protocol, version_in, full_length, Datagram, datagram_at, missing_from, datagram_in, link_type}
use Rattle.book_captures.specs.Captures.{datagram_by, frame_datagram}
use Rattle.capture_reader.proofs.Ends.{Ends, innermost_ends}
use Rattle.capture_reader.proofs.Finding.{no_layer, no_version, datagram_found}
use Rattle.book_base.specs.Hexadecimal.{IsByte}

-- a datagram, with what stands behind it, has a byte and is bytes
pub record IsFound (d : Datagram) : Type 0 where
  pub some : 0 < length (d.bytes ++ d.behind)
  pub bytes : All IsByte (d.bytes ++ d.behind)

-- what ends bytes is bytes
ends_bytes : (text body : List ℕ) → Ends text body → All IsByte text → All IsByte body
ends_bytes text body e all =
    let same : drop (length e.front) text ≡ body = ap (drop (length e.front)) e.split ∙ drop_at e.front body (length e.front) refl in
    rw same at (All-drop IsByte (length e.front) text all)

empty_by : (ip : Bool) (protocol : Protocol) (version : IpVersion) → is_ip_protocol protocol ≡ ip → version_in (record { protocol = protocol; body = [] }) ≡ Ok version → ⊥
unfolding version_in
empty_by true protocol version is e = let bad = rw is at e in absurd (cc)
empty_by false protocol version is e = let bad = rw is at e in absurd (cc)

some_body : (protocol : Protocol) (body : List ℕ) (version : IpVersion) → version_in (record { protocol = protocol; body = body }) ≡ Ok version → 0 < length body
some_body protocol [] version e = absurd (empty_by (is_ip_protocol protocol) protocol version refl e)
some_body protocol (b ∷ bs) version e = omega arith

same_datagram : (a b : Datagram) → ◌≡◌ {A = Result Datagram Skipped} (Ok a) (Ok b) → a ≡ b
same_datagram a b e = cc

no_datagram : (why : Skipped) (d : Datagram) (r : Result Datagram Skipped) → r ≡ Err why → r ≡ Ok d → ⊥
no_datagram why d r bad good = cc

whole_at : (version : IpVersion) (body : List ℕ) (missing : ℕ) → (datagram_at version body missing).bytes ++ (datagram_at version body missing).behind ≡ body
unfolding datagram_at
whole_at version body missing = take-append-drop (full_length version body missing) body

found_at : (version : IpVersion) (body : List ℕ) (missing : ℕ) (d : Datagram) → 0 < length body → All IsByte body → datagram_at version body missing ≡ d → IsFound d
found_at version body missing d some bytes is =
    let whole : d.bytes ++ d.behind ≡ body = ap (λ (x : Datagram). x.bytes ++ x.behind) (sym is) ∙ whole_at version body missing in
    record { some = rw whole some; bytes = rw whole bytes }

module _ (link : LinkType) (frame : List ℕ) (original : ℕ) (d : Datagram) (bytes : All IsByte frame) (is : datagram_in link frame original ≡ Ok d) where
  by_version : (layer : Layer) (v : Result IpVersion Skipped) → innermost link frame ≡ Ok layer → version_in layer ≡ v → IsFound d
  by_version layer (Err why) inner e = absurd (no_datagram _ d (datagram_in link frame original) (no_version link frame original layer why inner e) is)
  by_version layer (Ok version) inner e =
      let found = datagram_found link frame original layer version inner e in
      found_at version layer.body (missing_from frame original) d (some_body layer.protocol layer.body version e) (ends_bytes frame layer.body (innermost_ends link frame layer inner) bytes)
      (same_datagram (datagram_at version layer.body (missing_from frame original)) d (sym found ∙ is))

  by_layer : (r : Result Layer Skipped) → innermost link frame ≡ r → IsFound d
  by_layer (Err why) e = absurd (no_datagram _ d (datagram_in link frame original) (no_layer link frame original why e) is)
  by_layer (Ok layer) e = by_version layer (version_in layer) e refl

found_by : (link : Option LinkType) (f : Frame) (d : Datagram) → All IsByte f.bytes → datagram_by link f ≡ Ok d → IsFound d
found_by None f d bytes e = absurd (cc)
found_by (Some link) f d bytes e = by_layer link f.bytes f.original d bytes e (innermost link f.bytes) refl

pub is_found : (f : Frame) (d : Datagram) → All IsByte f.bytes → frame_datagram f ≡ Ok d → IsFound d
unfolding frame_datagram
is_found f d bytes e = found_by (link_type f.link) f d bytes e
