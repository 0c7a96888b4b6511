use Rattle.ao_mac.proofs.InputLaws.{refused, holds, decides}
use Rattle.link_report.proofs.ContextLaws.{of_parts, parts_of}
use Rattle.link_report.proofs.context.is_same_context.Goals as goal

pub returns-then-not-has_same_numbers : goal.returns-then-not-has_same_numbers
returns-then-not-has_same_numbers c =
    refused c.has_same_numbers.result c.if-not-has_same_numbers.true c.has_same_numbers.ensures (λ e. (parts_of c.args.one.now c.args.other.now e).1)

pub returns : goal.returns
returns c =
    let numbers = holds c.has_same_numbers.result c.if-not-has_same_numbers.false c.has_same_numbers.ensures in
    decides c.has_same_addresses.result c.has_same_addresses.ensures
    (λ a. of_parts c.args.one.now c.args.other.now a numbers)
    (λ e. (parts_of c.args.one.now c.args.other.now e).0)
