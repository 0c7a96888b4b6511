use Rattle.std.proofs.Common.{◌∙◌, sym}
use Rattle.book_keys.specs.Nodes.{tables_of}
use Rattle.scope_keys.proofs.FileLaws.{fails_is}
use Rattle.scope_keys.proofs.found.refused.Goals as goal

pub faulty-requires-clause-refused : goal.faulty-requires-clause-refused
faulty-requires-clause-refused c = fails_is c.args.fault (tables_of c.args.text.now) (sym c.is_memory.ensures ∙ c.if-is_memory.false) c.requires.refused
