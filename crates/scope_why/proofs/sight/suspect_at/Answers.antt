use Rattle.std.proofs.Common.{sym}
use Rattle.tcp_segment.specs.Views.{view_ao}
use Rattle.scope_why.specs.Finding.{numbered_of}
use Rattle.scope_why.specs.Views.{sight_of}
use Rattle.scope_why.proofs.SightLaws.{suspect_found, suspect_no_ao, suspect_no_isns, suspect_no_number, suspect_no_row}
use Rattle.scope_why.proofs.sight.suspect_at.Goals as goal

pub returns-in_err-ao-clause-found : goal.returns-in_err-ao-clause-found
returns-in_err-ao-clause-found c = rw c.from_residual.ensures (suspect_no_ao (sight_of c.args.inquiry.now) c.in_err-ao.ensures.found)

pub returns-in_err-found-clause-found : goal.returns-in_err-found-clause-found
returns-in_err-found-clause-found c = rw c.from_residual-in_err-found.ensures (suspect_no_row (sight_of c.args.inquiry.now) (view_ao c.in_ok-ao.ao) c.in_ok-ao.ensures.found c.in_err-found.ensures)

pub returns-in_err-isns-clause-found : goal.returns-in_err-isns-clause-found
returns-in_err-isns-clause-found c =
    rw c.from_residual-in_err-isns.ensures (suspect_no_isns (sight_of c.args.inquiry.now) (view_ao c.in_ok-ao.ao) (numbered_of c.in_ok-found.found) c.in_ok-ao.ensures.found c.in_ok-found.ensures (sym c.in_err-isns.ensures))

pub returns-in_err-number-clause-found : goal.returns-in_err-number-clause-found
returns-in_err-number-clause-found c =
    rw c.from_residual-in_err-number.ensures (suspect_no_number (sight_of c.args.inquiry.now) (view_ao c.in_ok-ao.ao) (numbered_of c.in_ok-found.found) c.in_ok-isns.isns c.in_ok-ao.ensures.found c.in_ok-found.ensures (sym c.in_ok-isns.ensures) (sym c.in_err-number.ensures))

pub returns-clause-found : goal.returns-clause-found
returns-clause-found c =
    suspect_found (sight_of c.args.inquiry.now) (view_ao c.in_ok-ao.ao) (numbered_of c.in_ok-found.found) c.in_ok-isns.isns c.in_ok-number.number c.in_ok-ao.ensures.found c.in_ok-found.ensures (sym c.in_ok-isns.ensures) (sym c.in_ok-number.ensures)
