use Rattle.std.proofs.Common.{codes, decimal}
use Rattle.book_scope_texts.specs.RowFindings.{count_said}
use Rattle.scope_texts.proofs.SaidLaws.{four_behind}
use Rattle.scope_texts.proofs.field.push_count_said.Goals as goal

pub returns : goal.returns
unfolding count_said
returns c =
    four_behind c.extend_from_slice-3.result c.args.out.now.items c.extend_from_slice.new.self.items c.push_decimal.new.out.items c.extend_from_slice-2.new.self.items _
    (codes "an array of ") (decimal c.args.count) (codes "; wanted: ") c.args.wanted.now
    c.in_ok-extend_from_slice.ensures.items c.in_ok-push_decimal.ensures c.in_ok-extend_from_slice-2.ensures.items c.extend_from_slice-3.ensures.items
