use Rattle.std.proofs.Common.{codes}
use Rattle.book_scope_texts.specs.FieldTexts.{field_said}
use Rattle.scope_texts.proofs.ShownLaws.{two_behind}
use Rattle.scope_texts.proofs.said.push_missing.Goals as goal

pub returns : goal.returns
unfolding field_said
returns c =
    two_behind c.extend_from_slice-2.result c.args.out.now.items c.extend_from_slice.new.self.items _ (codes "missing; wanted: ") c.args.wanted.now
    c.in_ok-extend_from_slice.ensures.items c.extend_from_slice-2.ensures.items
