use Rattle.std.proofs.Common.{◌≡◌, true, sym, ◌∙◌}
use Rattle.book_pcap.specs.Packets.{is_ip}
use Rattle.pcap_file.proofs.Parts.{raw_part, ip_part}
use Rattle.pcap_file.proofs.records.find_datagram.Goals as goal

pub returns-in-Raw-clause-datagram : goal.returns-in-Raw-clause-datagram
returns-in-Raw-clause-datagram c = rw c.in-Raw.is (raw_part c.args.bytes.now c.min.result c.min.ensures)

pub returns-then-has_ip-clause-datagram : goal.returns-then-has_ip-clause-datagram
returns-then-has_ip-clause-datagram c =
    let is : is_ip c.args.bytes.now ≡ true = sym c.has_ip.ensures.value ∙ c.if-has_ip.true in
    rw (c.in-Ethernet.is, is) (ip_part c.args.bytes.now c.min-then-has_ip.result (c.has_ip.ensures.long c.if-has_ip.true) c.min-then-has_ip.ensures)
