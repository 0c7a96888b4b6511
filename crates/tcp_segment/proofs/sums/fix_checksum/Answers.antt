use Rattle.tcp_segment.proofs.SetLaws.{fixes}
use Rattle.tcp_segment.proofs.sums.fix_checksum.Goals as goal

pub returns : goal.returns
returns c = fixes c.args.datagram.now c.set_checksum.new.out c.plain_header_length-header.result c.plain_header_length-header.ensures c.requires c.set_checksum.ensures.set
