use Rattle.std.proofs.Common.{ap, ◌∙◌}
use Rattle.book_segments.specs.Segments.{words_sum}
use Rattle.tcp_segment.proofs.WriteLaws.{ip_checksum_is}
use Rattle.tcp_segment.proofs.spelling.ip_checksum_of.Goals as goal

pub returns : goal.returns
returns c =
    ip_checksum_is c.args.head.now c.args.total c.words-3.result c.words.result c.words-2.result c.complement.result c.octets_of.ensures.sized (c.words-3.ensures.sum ∙ ap words_sum c.ipv4_start-start.ensures)
    (c.words.ensures.sum ∙ ap words_sum c.octets_of.ensures.bytes) (c.words-2.ensures.sum ∙ ap words_sum c.octets_of-2.ensures.bytes) c.complement.ensures
