use Rattle.law_headline.proofs.ReportEnds.{last_line}
use Rattle.law_headline.proofs.lawful.reports_end_in_counts.Goals as goal

pub returns : goal.returns
returns c = last_line
