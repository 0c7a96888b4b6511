use Rattle.std.proofs.Common.{◌≡◌, ◌++◌, append_assoc}
use Rattle.std.specs.Prelude.{◌-◌, codes, decimal}
use Rattle.book_scope_plan.specs.Bars.{summary_words}
use Rattle.draw_plan.proofs.picture.push_summary_words.Goals as goal

pub returns : goal.returns
unfolding summary_words
returns c =
    rw (c.in_ok-push_count-2.ensures, c.in_ok-push_count.ensures, c.saturating_sub.ensures)
    (append_assoc c.args.out.now.items (decimal c.args.all ++ codes " connections, ") (decimal (c.args.all - c.args.good) ++ codes " of them wrong"))
