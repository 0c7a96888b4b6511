use Rattle.std.proofs.Common.{◌*◌, ◌%◌, slice_index, take, ap, sym, ◌∙◌}
use Rattle.book_segments.specs.Segments.{words_sum}
use Rattle.book_segments.proofs.Folding.{complement_by}
use Rattle.capture_listener.specs.AsSent.{complement_at}
use Rattle.capture_listener.proofs.as_sent.header_checksum_of.Goals as goal

pub returns-clause-value : goal.returns-clause-value
returns-clause-value c =
    let b = c.args.bytes.now in
    c.complement.ensures.value ∙ (ap complement_at (c.words.ensures.sum ∙ ap words_sum c.header_of.ensures.value) ∙ sym (complement_by (take (4 * (slice_index b 0 % 16)) b)))
