use Rattle.book_segments.proofs.AreaLaws.{area_of, area_is, fault_stands, fault_read}
use Rattle.book_segments.proofs.laws.options_are_the_grammar.Goals as goal

pub returns-clause-read : goal.returns-clause-read
returns-clause-read c = area_of

pub returns-clause-only : goal.returns-clause-only
returns-clause-only c = area_is

pub returns-clause-fault : goal.returns-clause-fault
returns-clause-fault c = fault_stands

pub returns-clause-only_fault : goal.returns-clause-only_fault
returns-clause-only_fault c = fault_read
