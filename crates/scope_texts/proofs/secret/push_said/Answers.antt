use Rattle.std.proofs.Common.{codes}
use Rattle.book_scope_texts.specs.Hints.{shown_secret}
use Rattle.book_scope_texts.specs.RowFindings.{secret_said, secret_wanted}
use Rattle.scope_texts.proofs.SaidLaws.{three_behind}
use Rattle.scope_texts.proofs.secret.push_said.Goals as goal

pub returns : goal.returns
unfolding secret_said
returns c =
    three_behind c.extend_from_slice-2.result c.args.out.now.items c.push_shown_secret.new.out.items c.extend_from_slice.new.self.items c.extend_from_slice-2.new.self.items
    (shown_secret c.args.text.now) (codes "; wanted: ") secret_wanted
    c.in_ok-push_shown_secret.ensures c.in_ok-extend_from_slice.ensures.items c.extend_from_slice-2.ensures.items
