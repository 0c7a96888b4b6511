use Rattle.std.proofs.Common.{[], ◌∷◌}
use Rattle.std.specs.Prelude.{codes}
use Rattle.book_scope_plan.specs.PlanTexts.{pair_words, usual_socket_text}
use Rattle.plan_texts.proofs.Parts.{four}
use Rattle.plan_texts.proofs.lines.push_pair.Goals as goal

pub returns : goal.returns
unfolding pair_words
returns c =
    four c.args.out.now.items (codes "connection ") (usual_socket_text c.args.pair.now.local) (32 ∷ []) (usual_socket_text c.args.pair.now.remote)
    c.extend_from_slice.new.self.items c.push_socket.new.out.items c.push.new.self.items _
    c.in_ok-extend_from_slice.ensures.items c.in_ok-push_socket.ensures c.in_ok-push.ensures.items c.in_ok-push_socket-2.ensures
