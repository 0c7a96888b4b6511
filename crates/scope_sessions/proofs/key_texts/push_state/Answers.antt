use Rattle.book_sessions.specs.KeyLines.{seen_peers_text}
use Rattle.scope_sessions.proofs.KeyWords.{state_line}
use Rattle.scope_sessions.proofs.key_texts.push_state.Goals as goal

pub returns : goal.returns
returns c =
    state_line c.args.out.now.items c.push_last.new.out.items c.push_asking.new.out.items c.push_text.new.out.items c.push_peers.new.out.items c.push_newline.new.out.items c.args.last c.args.asking c.args.may.now (seen_peers_text c.args.peers)
    c.in_ok-push_last.ensures c.in_ok-push_asking.ensures c.in_ok-push_text.ensures c.in_ok-push_peers.ensures c.in_ok-push_newline.ensures
