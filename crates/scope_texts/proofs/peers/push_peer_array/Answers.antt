use Rattle.scope_texts.proofs.FindingLaws.{few_found, many_found}
use Rattle.scope_texts.proofs.peers.push_peer_array.Goals as goal

pub returns-then-are_few : goal.returns-then-are_few
returns-then-are_few c =
    few_found c.push_each_peer.result c.args.place.now c.args.values.now c.args.findings.now.items c.push_each_peer.new.findings.items c.are_few.result
    c.are_few.ensures c.if-are_few.true c.push_each_peer.ensures

pub returns : goal.returns
returns c =
    many_found c.push_count.result c.args.place.now c.args.values.now c.args.findings.now.items c.push_count.new.findings.items c.are_few.result
    c.are_few.ensures c.if-are_few.false c.push_count.ensures
