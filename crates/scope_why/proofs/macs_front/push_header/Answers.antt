use Rattle.ao_mac.proofs.FrontLaws.{put_two, put_three}
use Rattle.scope_why.proofs.FrontParts.{header_kept}
use Rattle.scope_why.proofs.macs_front.push_header.Goals as goal

pub returns : goal.returns
returns c =
    put_three _ _ _ _ _ _ _ _ (header_kept c.header-header.result.now c.args.datagram.now c.args.datagram.now.checksum c.args.checksum c.header-header.ensures.bytes)
    c.in_ok-push_piece.ensures c.in_ok-push_two.ensures c.in_ok-push_piece-2.ensures
