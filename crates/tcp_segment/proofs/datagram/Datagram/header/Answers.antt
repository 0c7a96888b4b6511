use Rattle.std.proofs.Common.{[], ap, ◌∙◌}
use Rattle.book_segments.specs.Segments.{Segment, header}
use Rattle.tcp_segment.proofs.ReadLaws.{header_in}
use Rattle.tcp_segment.proofs.datagram.Datagram.header.Goals as goal

pub returns-clause-bytes : goal.returns-clause-bytes
returns-clause-bytes c = header_in c.self.inside.bytes.now c.self.inside.places c.self.invariant ∙ ap (λ (d : Segment). header d d.checksum []) c.self.view_is
