use Rattle.std.proofs.Common.{◌∙◌, sym}
use Rattle.scope_keys.proofs.FileLaws.{with_nodes, without_nodes}
use Rattle.scope_keys.proofs.SaidLaws.{one_behind}
use Rattle.scope_keys.proofs.file.push_tables.Goals as goal

pub returns-then-has_nodes : goal.returns-then-has_nodes
returns-then-has_nodes c = rw (with_nodes c.args.tables.now (sym c.has_nodes.ensures ∙ c.if-has_nodes.true)) c.push_no_faults.ensures

pub returns : goal.returns
returns c = rw (without_nodes c.args.tables.now (sym c.has_nodes.ensures ∙ c.if-has_nodes.false)) (one_behind c.extend_from_slice.result c.args.out.now.items c.extend_from_slice.new.self.items _ c.extend_from_slice.ensures.items)
