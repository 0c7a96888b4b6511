use Rattle.law_sessions.proofs.Files.{files_judged}
use Rattle.law_sessions.proofs.Lines.{lines_judged, lines_mended}
use Rattle.law_sessions.proofs.lines_laws.check_judges_what_lines_writes.Goals as goal

pub returns-clause-packets : goal.returns-clause-packets
returns-clause-packets c = lines_judged

pub returns-clause-files : goal.returns-clause-files
returns-clause-files c = files_judged

pub returns-clause-mended : goal.returns-clause-mended
returns-clause-mended c = lines_mended
