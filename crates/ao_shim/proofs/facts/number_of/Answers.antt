use Rattle.std.proofs.Common.{ap, sym, ◌∙◌, Some, refl}
use Rattle.book_segments.specs.Meant.{meant}
use Rattle.ao_check.proofs.NumberLaws.{extended, extended_small, number_later}
use Rattle.ao_shim.proofs.facts.number_of.Goals as goal

pub returns-else-has-clause-number : goal.returns-else-has-clause-number
returns-else-has-clause-number c =
    extended c.extend.result c.sequence-else-has.result c.args.sent c.requires c.extend.ensures.found c.extend.ensures.none
    ∙ (ap (λ s. meant s c.args.sent) c.sequence-else-has.ensures
    ∙ sym (number_later c.args.datagram.now (Some c.args.sent) c.args.sent refl (sym c.has.ensures ∙ c.if-has.false)))

pub returns-else-has-clause-most : goal.returns-else-has-clause-most
returns-else-has-clause-most c =
    extended_small c.extend.result c.sequence-else-has.result c.args.sent c.requires c.extend.ensures.found
