use Rattle.draw_session_rungs.proofs.Words.{puts_unconfirmed}
use Rattle.draw_session_rungs.proofs.lines.push_outcome.Goals as goal

pub returns-in-UnconfirmedRefused : goal.returns-in-UnconfirmedRefused
returns-in-UnconfirmedRefused c = puts_unconfirmed c.push_unconfirmed.result c.args.out.now.items c.push_unconfirmed.new.out.items c.args.outcome c.in-UnconfirmedRefused.why c.in-UnconfirmedRefused.is c.push_unconfirmed.ensures
