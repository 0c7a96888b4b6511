use Rattle.scope_sessions.proofs.JsonItems.{use_done}
use Rattle.scope_sessions.proofs.json_sessions.push_use.Goals as goal

pub returns : goal.returns
returns c =
    use_done c.args.heading.now c.args.one.now c.args.out.now.items c.push_sender.new.out.items c.push_span.new.out.items c.push_asked.new.out.items c.in_ok-push_sender.ensures c.in_ok-push_span.ensures c.in_ok-push_asked.ensures
