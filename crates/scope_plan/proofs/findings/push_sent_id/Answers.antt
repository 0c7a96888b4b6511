use Rattle.std.specs.Prelude.{codes, decimal}
use Rattle.book_scope_plan.specs.FindingTexts.{sent_id_text}
use Rattle.plan_texts.proofs.Parts.{three}
use Rattle.scope_plan.proofs.findings.push_sent_id.Goals as goal

pub returns : goal.returns
unfolding sent_id_text
returns c =
    three c.args.out.now.items (codes " (sends KeyID ") (decimal c.args.row.now.send_id) (codes "): no row of ")
    c.extend_from_slice.new.self.items c.push_sent.new.out.items _
    c.in_ok-extend_from_slice.ensures.items c.in_ok-push_sent.ensures c.in_ok-extend_from_slice-2.ensures.items
