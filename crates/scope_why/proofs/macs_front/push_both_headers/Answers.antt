use Rattle.std.proofs.Common.{[], sym}
use Rattle.book_segments.specs.Segments.{header}
use Rattle.ao_mac.proofs.FrontLaws.{put_two, put_three}
use Rattle.ao_mac.proofs.Parts.{pseudo-append}
use Rattle.scope_why.proofs.macs_front.push_both_headers.Goals as goal

pub returns : goal.returns
returns c =
    let d = c.args.datagram.now in
    put_two _ _ _ _ _ _ (sym (pseudo-append d (header d c.args.checksum []))) c.in_ok-push_pseudo.ensures c.in_ok-push_header.ensures
