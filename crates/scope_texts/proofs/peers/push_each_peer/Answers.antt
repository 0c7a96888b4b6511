use Rattle.scope_texts.proofs.WalkLaws.{no_peer, one_peer}
use Rattle.scope_texts.proofs.peers.push_each_peer.Goals as goal

pub loop-value-preserved : goal.loop-value-preserved
loop-value-preserved c =
    one_peer c.args.place.now c.loop-value.findings.items c.push_peer.new.findings.items _ c.args.values.now c.loop-value.value-index c.value-item.result
    c.loop-value-test.true c.value-item.is c.in_ok-push_peer.ensures c.loop-value.invariant

pub returns : goal.returns
returns c = no_peer c.args.place.now c.loop-value.findings.items _ c.args.values.now c.loop-value.value-index c.loop-value-test.false c.loop-value.invariant
