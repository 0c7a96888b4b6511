use Rattle.std.proofs.Common.{refl}
use Rattle.ao_mac.proofs.FrontLaws.{put_two, put_three}
use Rattle.book_segments.specs.Bytes.{put2, put4}
use Rattle.scope_why.proofs.macs_front.push_head.Goals as goal

pub returns : goal.returns
unfolding put4
returns c = put_two _ _ _ _ _ _ refl c.in_ok-push_four.ensures c.in_ok-push_headers.ensures
