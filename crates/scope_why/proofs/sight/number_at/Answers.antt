use Rattle.std.proofs.Common.{ap, sym, ◌∙◌, Some, ℕ}
use Rattle.book_segments.specs.Meant.{meant}
use Rattle.ao_check.proofs.NumberLaws.{extended}
use Rattle.scope_why.specs.Views.{sight_of}
use Rattle.scope_why.proofs.SightLaws.{at_most, first_number, later_number}
use Rattle.scope_why.proofs.sight.number_at.Goals as goal

pub returns-in-None : goal.returns-in-None
returns-in-None c =
    ap Some (c.from.ensures ∙ c.sequence.ensures) ∙ sym (first_number (sight_of c.args.inquiry.now) (sym c.in-None.is ∙ c.expected_at.ensures.expected))

pub returns-in-Some : goal.returns-in-Some
returns-in-Some c =
    extended c.extend.result c.sequence-in-Some.result c.in-Some.expected (at_most c.expected_at.result c.in-Some.expected c.in-Some.is c.expected_at.ensures.limit) c.extend.ensures.found c.extend.ensures.none
    ∙ (ap (λ (s : ℕ). meant s c.in-Some.expected) c.sequence-in-Some.ensures
    ∙ sym (later_number (sight_of c.args.inquiry.now) c.in-Some.expected (sym c.in-Some.is ∙ c.expected_at.ensures.expected)))
