use Rattle.ao_mac.proofs.InputLaws.{refused, holds, decides, header_to, header_front, header_back}
use Rattle.ao_mac.proofs.inputs.same_header.Goals as goal

pub returns-then-not-same_bytes : goal.returns-then-not-same_bytes
returns-then-not-same_bytes c =
    refused c.same_bytes.result c.if-not-same_bytes.true c.same_bytes.ensures
    (header_front c.header-header.result.now c.header-other_header.result.now c.args.datagram.now c.args.other.now c.header-header.ensures.bytes c.header-other_header.ensures.bytes)

pub returns : goal.returns
returns c =
    let h = c.header-header.result.now in
    let k = c.header-other_header.result.now in
    let front = holds c.same_bytes.result c.if-not-same_bytes.false c.same_bytes.ensures in
    decides c.same_bytes-2.result c.same_bytes-2.ensures
    (header_to h k c.args.datagram.now c.args.other.now c.header-header.ensures.bytes c.header-other_header.ensures.bytes front)
    (header_back h k c.args.datagram.now c.args.other.now c.header-header.ensures.bytes c.header-other_header.ensures.bytes)
