use Rattle.std.proofs.Common.{codes, decimal}
use Rattle.book_scope_texts.specs.FileFindings.{overlap_said}
use Rattle.scope_texts.proofs.SaidLaws.{three_behind}
use Rattle.scope_keys.proofs.refused.push_overlap_said.Goals as goal

pub returns : goal.returns
unfolding overlap_said
returns c =
    three_behind c.extend_from_slice-2.result c.args.out.now.items c.extend_from_slice.new.self.items c.push_decimal.new.out.items c.extend_from_slice-2.new.self.items
    (codes "overlaps row ") (decimal c.args.row) (codes ": at some time both send, or both accept, for one peer under one KeyID")
    c.in_ok-extend_from_slice.ensures.items (rw c.from.ensures at c.in_ok-push_decimal.ensures) c.extend_from_slice-2.ensures.items
