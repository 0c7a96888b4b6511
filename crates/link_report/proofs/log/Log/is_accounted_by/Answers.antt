use Rattle.std.proofs.Common.{◌∙◌, sym}
use Rattle.link_report.proofs.LogLaws.{named_made}
use Rattle.link_report.proofs.log.Log.is_accounted_by.Goals as goal

pub returns-else-entry-sought : goal.returns-else-entry-sought
returns-else-entry-sought c = λ history f h passes holds.
    let named = c.in-Some.ensures history h in
    named_made c.args.at f c.args.name named.0 history named.1
    (sym holds ∙ c.accounts_for.ensures f named.0 named.2 passes)
