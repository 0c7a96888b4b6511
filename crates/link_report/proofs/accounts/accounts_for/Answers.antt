use Rattle.std.proofs.Common.{sym, ap, ◌∙◌}
use denote.Enum.Bare.{same_false}
use Rattle.book_base.specs.contracts.end.End.{the_type}
use Rattle.book_segments.specs.Segments.{reading}
use Rattle.link_report.proofs.AccountLaws.{by_key, by_context, by_input}
use Rattle.ao_mac.proofs.InputLaws.{holds}
use Rattle.link_report.proofs.accounts.accounts_for.Goals as goal

pub returns-then-not-has_key_of : goal.returns-then-not-has_key_of
returns-then-not-has_key_of c = λ f m is passes.
    let e = c.args.passing.now.passed in
    by_key c.args.at c.args.entry.now m c.args.row.now c.args.datagram.now e.number e.context f is passes
    (rw c.if-not-has_key_of.true at c.has_key_of.ensures)

pub returns-then-not-is_same_context : goal.returns-then-not-is_same_context
returns-then-not-is_same_context c = λ f m is passes.
    let e = c.args.passing.now.passed in
    by_context c.args.at c.args.entry.now m c.args.row.now c.args.datagram.now e.number e.context f is passes
    (rw c.if-not-is_same_context.true at c.is_same_context.ensures)

pub returns-in-Ok : goal.returns-in-Ok
returns-in-Ok c = λ f m is passes.
    let e = c.args.passing.now.passed in
    by_input c.args.at c.args.entry.now m c.args.row.now c.args.datagram.now e.number e.context f is passes c.in-Ok.made c.has_input.result
    (same_false the_type _ _ (sym c.if-eq.ensures))
    (holds c.has_key_of.result c.if-not-has_key_of.false c.has_key_of.ensures)
    (holds c.is_same_context.result c.if-not-is_same_context.false c.is_same_context.ensures)
    c.requires.number c.requires.fits (ap reading (sym c.as_slice.ensures) ∙ c.in-Ok.ensures.read)
    (rw c.with_options.ensures at c.has_input.ensures)
