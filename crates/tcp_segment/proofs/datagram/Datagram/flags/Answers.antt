use Rattle.std.proofs.Common.{ap, ◌∙◌}
use Rattle.book_segments.specs.Segments.{Segment}
use Rattle.tcp_segment.proofs.ReadLaws.{flags_in}
use Rattle.tcp_segment.proofs.datagram.Datagram.flags.Goals as goal

pub returns : goal.returns
returns c = flags_in c.self.inside.bytes.now c.self.inside.places c.self.invariant ∙ ap (λ (d : Segment). d.flags) c.self.view_is
