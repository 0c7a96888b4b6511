-- The datagram of a frame, by what is innermost in it.
use Rattle.std.proofs.Common.{◌≡◌, ℕ, List, Ok, Err, refl}
use Rattle.book_captures.specs.declared.link_type.LinkType.{LinkType}
use Rattle.book_captures.specs.declared.reasons.Skipped.{Skipped}
use Rattle.book_captures.specs.declared.datagram_parts.IpVersion.{IpVersion}
use Rattle.book_captures.specs.Frames.{Layer, innermost, version_in, datagram_at, as_cut, missing_from, datagram_in}

pub no_layer : (link : LinkType) (frame : List ℕ) (original : ℕ) (why : Skipped) → innermost link frame ≡ Err why
    → datagram_in link frame original ≡ Err (as_cut (missing_from frame original) why)
unfolding datagram_in
no_layer link frame original why e = rw e refl

pub no_version : (link : LinkType) (frame : List ℕ) (original : ℕ) (layer : Layer) (why : Skipped) → innermost link frame ≡ Ok layer
    → version_in layer ≡ Err why → datagram_in link frame original ≡ Err (as_cut (missing_from frame original) why)
unfolding datagram_in
no_version link frame original layer why e v = rw (e, v) refl

pub datagram_found : (link : LinkType) (frame : List ℕ) (original : ℕ) (layer : Layer) (version : IpVersion) → innermost link frame ≡ Ok layer
    → version_in layer ≡ Ok version → datagram_in link frame original ≡ Ok (datagram_at version layer.body (missing_from frame original))
unfolding datagram_in
datagram_found link frame original layer version e v = rw (e, v) refl
