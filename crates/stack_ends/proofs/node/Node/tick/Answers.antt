use Rattle.std.proofs.Common.{refl, rules}
use Rattle.stack_ends.proofs.NodeLaws.{ticks_pairs}
use Rattle.stack_ends.proofs.node.Node.tick.Goals as goal

pub returns : goal.returns
returns c =
    let t = ticks_pairs _ c.args.now _ (λ k v b w f p. search rules) c.self.inside.ends.entries c.retain.new.self.entries c.retain.ensures.filtered in
    rw (← c.self.view_is) (record { most = refl; each = t.each; count = t.count })
