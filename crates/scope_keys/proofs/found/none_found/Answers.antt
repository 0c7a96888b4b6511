use Rattle.scope_keys.proofs.FoundLaws.{found_none}
use Rattle.scope_keys.proofs.found.none_found.Goals as goal

pub returns : goal.returns
returns c = found_none c.args.text.now c.args.tables.now _ c.new.ensures.items c.requires
