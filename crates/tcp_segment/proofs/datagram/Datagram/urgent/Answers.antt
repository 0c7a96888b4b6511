use Rattle.std.proofs.Common.{ap, ◌∙◌}
use Rattle.book_segments.specs.Segments.{Segment}
use Rattle.tcp_segment.proofs.ReadLaws.{urgent_in}
use Rattle.tcp_segment.proofs.datagram.Datagram.urgent.Goals as goal

pub returns : goal.returns
returns c = c.two.ensures ∙ urgent_in c.self.inside.bytes.now c.self.inside.places c.self.invariant ∙ ap (λ (d : Segment). d.urgent) c.self.view_is
