use Rattle.std.proofs.Common.{ap, ◌∙◌}
use Rattle.book_segments.specs.Segments.{Segment}
use Rattle.tcp_segment.proofs.ReadLaws.{window_in}
use Rattle.tcp_segment.proofs.datagram.Datagram.window.Goals as goal

pub returns : goal.returns
returns c = c.two.ensures ∙ window_in c.self.inside.bytes.now c.self.inside.places c.self.invariant ∙ ap (λ (d : Segment). d.window) c.self.view_is
