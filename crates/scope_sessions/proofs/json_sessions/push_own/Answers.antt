use Rattle.std.proofs.Common.{◌≡◌, ◌∙◌}
use Rattle.scope_sessions.proofs.OwnLaws.{json_on}
use Rattle.scope_sessions.proofs.json_sessions.push_own.Goals as goal

pub returns : goal.returns
returns c = json_on c.push_session.result c.push_session.new.out.items c.args.out.now.items c.as_slice.result.now c.args.index.now.uses c.args.number (c.as_slice.ensures.value ∙ c.in_ok-own.ensures) c.push_session.ensures
