use Rattle.page_sessions_json.proofs.Early.{none_early}
use Rattle.page_sessions_json.proofs.laws.no_table_is_early.Goals as goal

pub returns : goal.returns
returns c = none_early
