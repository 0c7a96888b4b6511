use Rattle.std.proofs.Common.{codes, decimal, ◌∷◌, []}
use Rattle.book_link.specs.Reports.{shown_text}
use Rattle.link_report.proofs.TextLaws.{in_turn}
use Rattle.link_report.proofs.summary.push_flow.Goals as goal

pub returns : goal.returns
returns c =
    let s = c.args.session.now in
    in_turn c.push_shown.result c.args.out.now.items _ _ _ (codes "given" ∷ decimal s.given ∷ []) (codes "delivered" ∷ decimal s.delivered ∷ []) (shown_text s.end_shown ∷ [])
    c.in_ok-push_field.ensures c.in_ok-push_field-2.ensures c.push_shown.ensures
