use Rattle.std.proofs.Common.{◌∙◌, sym}
use Rattle.book_keys.specs.Nodes.{tables_of}
use Rattle.scope_keys.proofs.FileLaws.{fails_is}
use Rattle.scope_keys.proofs.report.refused_report.Goals as goal

pub faulty_report-requires-clause-refused : goal.faulty_report-requires-clause-refused
faulty_report-requires-clause-refused c = fails_is c.args.fault (tables_of c.args.text.now) (sym c.is_memory.ensures ∙ c.if-is_memory.false) c.requires.refused
