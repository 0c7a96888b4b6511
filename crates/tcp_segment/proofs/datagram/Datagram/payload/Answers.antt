use Rattle.std.proofs.Common.{ap, ◌∙◌}
use Rattle.book_segments.specs.Segments.{Segment}
use Rattle.tcp_segment.proofs.ReadLaws.{payload_in}
use Rattle.tcp_segment.proofs.datagram.Datagram.payload.Goals as goal

pub returns-clause-value : goal.returns-clause-value
returns-clause-value c = payload_in c.self.inside.bytes.now c.self.inside.places c.self.invariant ∙ ap (λ (d : Segment). d.payload) c.self.view_is
