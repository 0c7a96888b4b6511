use Rattle.law_pcap.specs.LineForms.{line_form}
use Rattle.law_pcap.proofs.Records.{line_form_shows}
use Rattle.law_pcap.proofs.Judged.{answers_alike}
use Rattle.law_pcap.proofs.laws.files_are_judged_as_their_line_forms.Goals as goal

pub returns-clause-stored : goal.returns-clause-stored
returns-clause-stored c = line_form_shows

pub returns-clause-output : goal.returns-clause-output
returns-clause-output c = λ name keys file all few few_lines. (answers_alike name keys file (line_form file) few few_lines (line_form_shows file all)).output

pub returns-clause-whole : goal.returns-clause-whole
returns-clause-whole c = λ name keys file all few few_lines none. (answers_alike name keys file (line_form file) few few_lines (line_form_shows file all)).whole none
