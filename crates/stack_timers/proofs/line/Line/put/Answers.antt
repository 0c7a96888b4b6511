use Rattle.std.proofs.Common.{◌≡◌, sym, ap, ◌∙◌, arith, deque_len, length, rules}
use Rattle.std.specs.Prelude.{is_some}
use Rattle.stack_timers.proofs.IndexLaws.{length_pair_entries, roomier}
use Rattle.stack_timers.proofs.KeptLaws.{line_full, line_grows, line_kept, line_stays, none_of, seen_some}
use Rattle.stack_timers.proofs.line.Line.put.Goals.{then-is_some-via-then-is_some, then-is_some-via-else-is_some+then-len-most}
use Rattle.stack_timers.proofs.line.Line.put.Goals as goal

pub returns-then-is_some-clause-pairs : goal.returns-then-is_some-clause-pairs
returns-then-is_some-clause-pairs c =
    rw (← c.self.view_is) (elim c.then-is_some.branch [
      | then-is_some-via-then-is_some w ↦ line_stays _ _ _ c.args.pair.now c.self.invariant (sym (ap is_some c.get.ensures) ∙ seen_some _ c.get.result ∙ sym c.is_some.ensures ∙ w.if-is_some.true)
      | then-is_some-via-else-is_some+then-len-most w ↦ line_full _ _ _ c.args.pair.now c.self.invariant (omega (arith, w.len.ensures.value, w.most.ensures.value, w.if-len-most.true))
    ])

pub invariant_of-self : goal.invariant_of-self
invariant_of-self c =
    rw (c.insert.ensures, c.in-Ok.ensures.items)
    (roomier _ _ _ _ c.in-Ok.ensures.capacity
    (line_kept _ c.self.inside.standing c.self.inside.items.items c.args.pair.now c.self.invariant (none_of _ (sym (ap is_some c.get.ensures) ∙ seen_some _ c.get.result ∙ sym c.is_some.ensures ∙ c.if-is_some.false))))

pub returns-clause-pairs : goal.returns-clause-pairs
returns-clause-pairs c =
    rw (← c.self.view_is) (c.in-Ok.ensures.items
    ∙ line_grows _ c.self.inside.standing c.self.inside.items.items c.args.pair.now c.self.invariant (sym (ap is_some c.get.ensures) ∙ seen_some _ c.get.result ∙ sym c.is_some.ensures ∙ c.if-is_some.false) (omega (arith, c.len.ensures.value, c.most.ensures.value, c.if-len-most.false)))

pub unreachable-requires : goal.unreachable-requires
unreachable-requires c =
    let long : deque_len c.self.inside.items ≡ length c.self.inside.items.items = search rules in
    omega (arith, long, c.len.ensures.value, c.most.ensures.value, c.if-len-most.false, c.in-Err.ensures.full, c.self.invariant.enough, c.self.invariant.same, length_pair_entries c.self.inside.items.items)
