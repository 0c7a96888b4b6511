use Rattle.std.proofs.Common.{ap, ◌∙◌}
use Rattle.book_segments.specs.Segments.{good}
use Rattle.tcp_segment.proofs.ReadLaws.{good_at}
use Rattle.tcp_segment.proofs.datagram.Datagram.checksum_ok.Goals as goal

pub returns-then-sum-gt0 : goal.returns-then-sum-gt0
returns-then-sum-gt0 c =
    good_at c.self.inside.bytes.now c.self.inside.places c.address_sum.result c.words_modulo.result c.self.invariant c.address_sum.ensures.sum c.words_modulo.ensures.sum ∙ ap good c.self.view_is
