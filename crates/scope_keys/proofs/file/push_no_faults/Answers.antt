use Rattle.std.proofs.Common.{codes, decimal, length}
use Rattle.book_scope_texts.specs.FileFindings.{no_faults_line, row_total}
use Rattle.scope_keys.proofs.SaidLaws.{five_behind}
use Rattle.scope_keys.proofs.file.push_no_faults.Goals as goal

pub returns : goal.returns
unfolding no_faults_line
returns c =
    five_behind c.extend_from_slice-3.result c.args.out.now.items c.extend_from_slice.new.self.items c.push_decimal.new.out.items c.extend_from_slice-2.new.self.items
    c.push_decimal-2.new.out.items c.extend_from_slice-3.new.self.items (codes "no faults: ") (decimal (length c.args.tables.now)) (codes " nodes, ")
    (decimal (row_total c.args.tables.now)) (codes " rows\n") c.in_ok-extend_from_slice.ensures.items (rw c.node_total.ensures at c.in_ok-push_decimal.ensures)
    c.in_ok-extend_from_slice-2.ensures.items (rw c.row_total.ensures at c.in_ok-push_decimal-2.ensures) c.extend_from_slice-3.ensures.items
