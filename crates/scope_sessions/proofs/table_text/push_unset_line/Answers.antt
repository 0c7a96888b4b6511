use Rattle.std.specs.Prelude.{codes, decimal}
use Rattle.scope_sessions.proofs.KeyWords.{on_line}
use Rattle.scope_sessions.proofs.table_text.push_unset_line.Goals as goal

pub returns : goal.returns
returns c =
    on_line c.push_newline.result c.args.out.now.items (codes "ip-checksum ") (decimal c.args.unset) c.extend_from_slice.new.self.items c.push_decimal.new.out.items c.push_newline.new.out.items c.in_ok-extend_from_slice.ensures.items
    c.in_ok-push_decimal.ensures c.push_newline.ensures
