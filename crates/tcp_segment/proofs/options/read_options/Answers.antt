use Rattle.std.proofs.Common.{refl, ap}
use Rattle.book_segments.specs.Options.{listed}
use Rattle.book_segments.proofs.AreaLaws.{area_of, area_is, fault_stands}
use Rattle.tcp_segment.proofs.KindLaws.{not_both}
use Rattle.tcp_segment.proofs.options.read_options.Goals as goal

pub returns-in-None-clause-options : goal.returns-in-None-clause-options
returns-in-None-clause-options c = area_of c.args.area.now c.in-None.ensures

pub returns-in-Some-clause-fault : goal.returns-in-Some-clause-fault
returns-in-Some-clause-fault c = fault_stands c.args.area.now c.in-Some.fault c.in-Some.ensures

pub returns-in-None-clause-only : goal.returns-in-None-clause-only
returns-in-None-clause-only c = λ list tail a. (refl, ap listed (area_is list tail c.args.area.now a))

pub returns-in-Some-clause-only : goal.returns-in-Some-clause-only
returns-in-Some-clause-only c = λ list tail a. absurd (not_both c.args.area.now list c.in-Some.fault (area_is list tail c.args.area.now a) c.in-Some.ensures)
