use Rattle.std.proofs.Common.{ap, ◌∙◌, arith}
use Rattle.std.proofs.lemmas.Result.{err_from_is_err_and}
use Rattle.book_segments.specs.Segments.{first_fault, fields}
use Rattle.book_segments.proofs.Again.{again}
use Rattle.tcp_segment.proofs.ReadLaws.{is_read, no_fault, reads, refuses, spells}
use Rattle.tcp_segment.proofs.datagram.read_datagram.Goals as goal

pub invariant_of-result : goal.invariant_of-result
invariant_of-result c = is_read c.args.bytes.now c.in_ok-places.places (λ i. omega (arith, c.type_inv.bytes i)) c.in_ok-places.ensures.1 c.in_ok-places.ensures.0

pub returns-clause-read : goal.returns-clause-read
returns-clause-read c = reads c.args.bytes.now c.in_ok-places.ensures.1

pub returns-clause-spelled : goal.returns-clause-spelled
returns-clause-spelled c =
    spells c.args.bytes.now c.in_ok-places.places (is_read c.args.bytes.now c.in_ok-places.places (λ i. omega (arith, c.type_inv.bytes i)) c.in_ok-places.ensures.1 c.in_ok-places.ensures.0)

pub returns-clause-only : goal.returns-clause-only
returns-clause-only c = λ d rest f e. ap fields e ∙ (again d rest f).value

pub returns-in_err-places-clause-refused : goal.returns-in_err-places-clause-refused
returns-in_err-places-clause-refused c =
    let p = err_from_is_err_and c.from_residual.result c.from_residual.ensures.1 in
    rw (p.1, p.2) (refuses c.args.bytes.now c.in_err-places.field-0.0 c.in_err-places.ensures)

pub returns-in_err-places-clause-only : goal.returns-in_err-places-clause-only
returns-in_err-places-clause-only c = λ d rest f e. absurd (no_fault c.args.bytes.now c.in_err-places.field-0.0 (ap first_fault e ∙ (again d rest f).none) c.in_err-places.ensures)
