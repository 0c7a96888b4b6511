use Rattle.law_headline.proofs.FilesThrough.{keyed_through, shared_through}
use Rattle.law_headline.proofs.inputs.link_files_get_through.Goals as goal

pub returns-clause-keyed : goal.returns-clause-keyed
returns-clause-keyed c = keyed_through

pub returns-clause-shared : goal.returns-clause-shared
returns-clause-shared c = shared_through
