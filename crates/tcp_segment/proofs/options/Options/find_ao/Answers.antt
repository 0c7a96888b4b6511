use Rattle.std.proofs.Common.{ap, sym, ◌∙◌}
use Rattle.book_segments.specs.Options.{find_ao}
use Rattle.tcp_segment.proofs.KindLaws.{listed_of, absent_is, two_is, md5_is, one_is}
use Rattle.tcp_segment.proofs.options.Options.find_ao.Goals as goal

pub first_of-requires-clause-listed : goal.first_of-requires-clause-listed
first_of-requires-clause-listed c = listed_of c.self.inside.area.now c.self.invariant.0

pub first_of-requires-3-clause-listed : goal.first_of-requires-3-clause-listed
first_of-requires-3-clause-listed c = listed_of c.self.inside.area.now c.self.invariant.0

pub returns-in_default : goal.returns-in_default
returns-in_default c = absent_is c.self.inside.area.now c.in_default.ensures ∙ ap find_ao c.self.view_is

pub returns-then-is_some : goal.returns-then-is_some
returns-then-is_some c = two_is c.self.inside.area.now c.in-Some.hit c.first_of-2.result c.in-Some.ensures c.first_of-2.ensures (sym c.is_some.ensures ∙ c.if-is_some.true) ∙ ap find_ao c.self.view_is

pub returns-then-is_some-2 : goal.returns-then-is_some-2
returns-then-is_some-2 c =
    md5_is c.self.inside.area.now c.in-Some.hit c.first_of-2.result c.first_of-3.result c.in-Some.ensures c.first_of-2.ensures (sym c.is_some.ensures ∙ c.if-is_some.false) c.first_of-3.ensures (sym c.is_some-2.ensures ∙ c.if-is_some-2.true)
    ∙ ap find_ao c.self.view_is

pub returns : goal.returns
returns c =
    one_is c.self.inside.area.now c.in-Some.hit c.ao_of_hit.result c.first_of-2.result c.first_of-3.result c.in-Some.ensures c.first_of-2.ensures (sym c.is_some.ensures ∙ c.if-is_some.false) c.first_of-3.ensures (sym c.is_some-2.ensures ∙ c.if-is_some-2.false) c.ao_of_hit.ensures
    ∙ ap find_ao c.self.view_is
