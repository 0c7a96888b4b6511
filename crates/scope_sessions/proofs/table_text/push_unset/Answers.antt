use Rattle.scope_sessions.proofs.KeyWords.{unset_told}
use Rattle.scope_sessions.proofs.table_text.push_unset.Goals as goal

pub returns : goal.returns
returns c = rw (unset_told c.args.unset c.if-unset-eq0.false) c.push_unset_line.ensures
