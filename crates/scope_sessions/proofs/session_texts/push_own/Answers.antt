use Rattle.std.proofs.Common.{◌≡◌, ◌∙◌}
use Rattle.scope_sessions.proofs.OwnLaws.{lines_on}
use Rattle.scope_sessions.proofs.session_texts.push_own.Goals as goal

pub returns : goal.returns
returns c = lines_on c.push_session.result c.push_session.new.out.items c.args.out.now.items c.as_slice.result.now c.args.index.now.uses c.args.number (c.as_slice.ensures.value ∙ c.in_ok-own.ensures) c.push_session.ensures
