use Rattle.std.proofs.Common.{ap, ◌∙◌}
use Rattle.book_segments.specs.Segments.{Segment}
use Rattle.tcp_segment.proofs.ReadLaws.{acknowledgement_in}
use Rattle.tcp_segment.proofs.datagram.Datagram.acknowledgement.Goals as goal

pub returns : goal.returns
returns c = c.four.ensures ∙ acknowledgement_in c.self.inside.bytes.now c.self.inside.places c.self.invariant ∙ ap (λ (d : Segment). d.acknowledgement) c.self.view_is
