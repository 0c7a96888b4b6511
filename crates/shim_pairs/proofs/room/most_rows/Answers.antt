use Rattle.std.proofs.Common.{◌≡◌, ◌<◌, ◌-◌, ◌+◌, ℕ, length, drop, get_or, ap, subst, ◌∙◌, arith}
use Rattle.shim_pairs.specs.Holdings.{larger, room_of}
use Rattle.shim_pairs.proofs.RoomLaws.{room_step}
use Rattle.shim_pairs.proofs.room.most_rows.Goals as goal

pub loop-n-preserved : goal.loop-n-preserved
loop-n-preserved c =
    let t = c.node.result.now in let ts = c.args.tables.now in let n = c.loop-n.n in
    let lt : n < length ts = let e = c.nodes-n-end.ensures.value in let h = c.loop-n-test.true in omega (arith, e, h) in
    ap (λ (k : ℕ). larger k (room_of (drop (n + 1) ts))) (c.larger-most.ensures ∙ ap (larger c.loop-n.most) c.rows.ensures.value)
    ∙ room_step c.loop-n.most t ts n lt (subst (λ (k : ℕ). t ≡ get_or ts k t) {x = n + 1 - 1} (omega arith) (c.node.ensures t)) ∙ c.loop-n.invariant
