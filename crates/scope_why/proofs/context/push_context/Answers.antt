use Rattle.ao_mac.proofs.FrontLaws.{put_two, put_three}
use Rattle.scope_why.proofs.FrontParts.{context_joined}
use Rattle.scope_why.proofs.context.push_context.Goals as goal

pub returns : goal.returns
returns c =
    let m = c.args.choices.now in
    put_three _ _ _ _ _ _ _ _ (context_joined m.source m.destination m.source_isn m.destination_isn) c.in_ok-push_addresses.ensures c.in_ok-push_ports.ensures c.in_ok-push_isns.ensures
