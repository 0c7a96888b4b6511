use Rattle.std.specs.Prelude.{codes}
use Rattle.book_scope_texts.specs.Addresses.{usual_address_text}
use Rattle.book_scope_plan.specs.DifferenceTexts.{peers_text}
use Rattle.plan_texts.proofs.Parts.{three}
use Rattle.scope_plan.proofs.columns.push_peers.Goals as goal

pub returns : goal.returns
unfolding peers_text
returns c =
    three c.args.out.now.items (codes "Peers: they don't have ") (usual_address_text c.args.address.now) (codes "\n")
    c.extend_from_slice.new.self.items c.push_address.new.out.items _
    c.in_ok-extend_from_slice.ensures.items c.in_ok-push_address.ensures c.in_ok-extend_from_slice-2.ensures.items
