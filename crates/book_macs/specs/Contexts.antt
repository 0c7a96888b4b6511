-- The context of a traffic key, and that of a segment's traffic key: `context_of` is the file's
-- top.
use Rattle.std.specs.Prelude.{ℕ, List, [], ◌++◌, Option, Some, None, if◌then◌else◌}
use Rattle.book_base.specs.declared.address.Socket.{Socket}
use Rattle.book_segments.specs.Bytes.{put2, put4}
use Rattle.book_segments.specs.Sockets.{octets}
use Rattle.book_segments.specs.Segments.{Segment, has, ACK, SYN}
use Rattle.book_macs.specs.declared.context.Context.{Context}

-- a context: both addresses, both ports, both initial sequence numbers, the sender's first (RFC
-- 5925, section 5.2)
unfoldable pub context : (source destination : Socket) → (source_isn destination_isn : ℕ) → List ℕ
context source destination source_isn destination_isn =
    octets source.address ++ (octets destination.address
    ++ put2 source.port (put2 destination.port (put4 source_isn (put4 destination_isn []))))

-- the bytes of a context (RFC 5925, section 5.2)
abbrev pub bytes_of : Context → List ℕ
bytes_of c = context c.source c.destination c.source_isn c.dest_isn

-- the context, where the destination's initial sequence number is known (RFC 5925, section 5.2)
abbrev pub context_known : (source destination : Socket) → ℕ → Option ℕ → Option (List ℕ)
context_known source destination own None = None
context_known source destination own (Some peer) = Some (context source destination own peer)

-- the context of a segment with SYN: its own sequence is the source's number, and without ACK the
-- destination's is 0 (RFC 5925, section 5.2)
abbrev pub context_of_syn : Segment → Option ℕ → Option (List ℕ)
context_of_syn d destination_isn =
    if has ACK d then context_known d.source d.destination d.sequence destination_isn
    else Some (context d.source d.destination d.sequence 0)

-- the context of a segment without SYN: the two initial sequence numbers of the connection, where
-- both are known (RFC 5925, section 5.2)
abbrev pub context_of_later : Segment → (source_isn destination_isn : Option ℕ) → Option (List ℕ)
context_of_later d None destination_isn = None
context_of_later d (Some source_isn) destination_isn =
    context_known d.source d.destination source_isn destination_isn

-- the context of a segment, from the initial sequence numbers of its source and its destination as
-- far as they are known (RFC 5925, section 5.2)
unfoldable pub context_of : Segment → (source_isn destination_isn : Option ℕ) → Option (List ℕ)
context_of d source_isn destination_isn =
    if has SYN d then context_of_syn d destination_isn
    else context_of_later d source_isn destination_isn
