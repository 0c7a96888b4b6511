use Rattle.std.proofs.Common.{codes}
use Rattle.toml.specs.View.{view}
use Rattle.book_scope_texts.specs.FieldTexts.{hidden_said, type_shown}
use Rattle.scope_texts.proofs.ShownLaws.{three_behind}
use Rattle.scope_texts.proofs.said.push_type_said.Goals as goal

pub returns : goal.returns
unfolding hidden_said
returns c =
    three_behind c.extend_from_slice-3.result c.args.out.now.items c.extend_from_slice.new.self.items c.extend_from_slice-2.new.self.items c.extend_from_slice-3.new.self.items
    (type_shown (view c.args.value.now)) (codes "; wanted: ") c.args.wanted.now
    (rw c.type_shown.ensures at c.in_ok-extend_from_slice.ensures.items) c.in_ok-extend_from_slice-2.ensures.items c.extend_from_slice-3.ensures.items
