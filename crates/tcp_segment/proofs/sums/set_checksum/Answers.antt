use Rattle.tcp_segment.proofs.SetLaws.{is_set}
use Rattle.tcp_segment.proofs.sums.set_checksum.Goals as goal

pub returns-clause-set : goal.returns-clause-set
returns-clause-set c =
    is_set c.args.out.now c.put_two.new.bytes c.put_two-2.new.bytes c.args.header c.args.end c.address_sum-addresses.result c.words.result c.complement.result
    c.put_two.ensures c.put_two-2.ensures c.address_sum-addresses.ensures.sum c.words.ensures.sum c.complement.ensures
