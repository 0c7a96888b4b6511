use Rattle.scope_sessions.proofs.JsonItems.{packets_done}
use Rattle.scope_sessions.proofs.json_packets.push_packets.Goals as goal

pub returns : goal.returns
returns c =
    packets_done c.args.index.now c.args.out.now.items c.push_seen.new.out.items c.push_others.new.out.items c.push_unset.new.out.items c.push.new.self.items c.in_ok-segments.segments c.in_ok-others.others
    (rw (c.in_ok-segments.ensures.ok_part, c.uses.ensures.uses) at c.all_counted.ensures) (rw (c.in_ok-others.ensures.ok_part, c.passed.ensures) at c.all_passed.ensures) (rw c.uses-2.ensures.uses at c.in_ok-push_seen.ensures)
    (rw c.passed-2.ensures at c.in_ok-push_others.ensures) (rw c.unset.ensures at c.in_ok-push_unset.ensures) c.in_ok-push.ensures.items
