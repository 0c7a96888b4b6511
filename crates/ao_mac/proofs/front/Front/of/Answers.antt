use Rattle.book_segments.specs.Bytes.{put4}
use Rattle.ao_mac.proofs.front.Front.of.Goals as goal

pub returns : goal.returns
unfolding put4
returns c =
    rw (c.push_covered.ensures, c.push_header.ensures.bytes, c.push_pseudo_header.ensures.bytes, c.push.ensures, c.empty-front.ensures, c.to_be_bytes.ensures)
