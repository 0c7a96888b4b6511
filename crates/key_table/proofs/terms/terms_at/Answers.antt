use Rattle.std.proofs.Common.{rules, ◌≡◌, Ok, sym, ◌∙◌}
use Rattle.toml.specs.View.{table_view}
use Rattle.book_keys.specs.Columns.{lifetime_of, terms_of, sending_start, sending_end, accepting_start, accepting_end}
use Rattle.key_table.proofs.terms.terms_at.Goals as goal

pub returns : goal.returns
unfolding terms_of
returns c =
    let table = table_view c.args.table.now in
    let sending : lifetime_of c.args.node c.args.row sending_start sending_end table ≡ Ok c.in_ok-sending.sending =
    sym c.lifetime_at.ensures ∙ c.in_ok-sending.was in
    let accepting : lifetime_of c.args.node c.args.row accepting_start accepting_end table ≡ Ok c.in_ok-accepting.accepting =
    sym c.lifetime_at-2.ensures ∙ c.in_ok-accepting.was in
    search (rules, sending, accepting)
