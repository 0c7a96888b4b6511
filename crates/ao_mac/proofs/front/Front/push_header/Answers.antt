use Rattle.ao_mac.proofs.FrontLaws.{put_three}
use Rattle.ao_mac.proofs.Parts.{zeroed}
use Rattle.ao_mac.proofs.front.Front.push_header.Goals as goal

pub returns-clause-bytes : goal.returns-clause-bytes
returns-clause-bytes c =
    put_three _ _ _ _ _ _ _ _ (zeroed c.header-header.result.now c.args.datagram.now c.args.datagram.now.checksum c.header-header.ensures.bytes)
    c.push.ensures c.push_zeros.ensures c.push-2.ensures
